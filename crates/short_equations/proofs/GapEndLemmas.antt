-- What is left at the ends of a switch says in the gap view.
use Rattle.std.proofs.Common.{◌≡◌, ◌≢◌, ◌⊎◌, ◌↔◌, ◌<◌, ◌≤◌, ℕ, Bool, false, List, length, slice_get}
use Rattle.std.proofs.Common.{Some, None, refl, sym, ◌∙◌, ap, subst, inl, inr, arith}
use Rattle.std.specs.Prelude.{Option, MatchOption}
use Rattle.ilk_base.specs.declared.words.Kind.{Kind}
use Rattle.ilk_base.specs.declared.words.Kind.TheVariants.{Breaker, Disconnector, Earthing, Infeed}
use Rattle.ilk_base.specs.declared.words.NodeId.{NodeId}
use Rattle.ilk_base.specs.declared.words.Op.{Op}
use Rattle.station_graph.specs.declared.items.Switch.{Switch}
use Rattle.station_graph.specs.Diagram.{Diagram, IsStation, IsTwoEnded, SwitchFits, node_count}
use Rattle.station_graph.specs.Connection.{Item, a_switch, Linked, Coupled, TouchingBy, with_breakers_closed}
use Rattle.station_graph.specs.Sharing.{Touches, TouchedBy}
use Rattle.station_graph.specs.Supply.{ClosedAt, Energisable, Earthable}
use Rattle.station_graph.specs.Views.{ClosedAtBy}
use Rattle.station_graph.specs.CentralRules.{before, after}
use Rattle.station_graph.proofs.PartialEdges.{second_fits}
use Rattle.station_graph.proofs.TouchLemmas.{touching_touches, closed_touches}
use Rattle.contraction.specs.Stands.{AllBut}
use Rattle.contraction.proofs.EndsLemmas.{coupled_to_rest, closed_coupled_to}
use Rattle.short_equations.specs.declared.edge.TheConstants.{FIRST_MARK}
use Rattle.short_equations.specs.Edges.{IsMark}
use Rattle.short_equations.specs.Standing.{Replaces, MarksApart}
use Rattle.short_equations.specs.Sights.{HasTwo, GapSight, first_mark, second_mark}
use Rattle.short_equations.specs.Signals.{gap_vector}
use Rattle.short_equations.specs.Pairs.{IsFarEnd}
use Rattle.short_equations.proofs.EndsLemmas.{FromTwo, from_ends}
use Rattle.short_equations.proofs.TopLemmas.{either_sees, sees_first, sees_second}
use Rattle.short_equations.proofs.ComposeSights.{gap_apart}

two_kinds : (k : Kind) (v : List Bool) (op : Op) → IsTwoEnded k → gap_vector k v op ≡ after v op
two_kinds Breaker v op t = refl
two_kinds Disconnector v op t = refl
two_kinds Earthing v op t = absurd t
two_kinds Infeed v op t = absurd t

one_kind : (k : Kind) (v : List Bool) (op : Op) → ¬ IsTwoEnded k → gap_vector k v op ≡ before v op
one_kind Breaker v op t = absurd (t tt)
one_kind Disconnector v op t = absurd (t tt)
one_kind Earthing v op t = refl
one_kind Infeed v op t = refl

no_infeed : (k : Kind) → IsTwoEnded k → k ≢ Infeed
no_infeed Breaker t e = cc
no_infeed Disconnector t e = cc
no_infeed Earthing t e = t
no_infeed Infeed t e = t

no_earthing : (k : Kind) → IsTwoEnded k → k ≢ Earthing
no_earthing Breaker t e = cc
no_earthing Disconnector t e = cc
no_earthing Earthing t e = t
no_earthing Infeed t e = t

-- one vector
module _ (d : Diagram) (station : IsStation d)
    (within : (item : Item) (n : ℕ) → Touches d item n → n < node_count d) (op : Op) (x : Switch)
    (listed : slice_get d.switches op.switch.0 ≡ Some x) (q : NodeId) (far : IsFarEnd x q)
    (v : List Bool) (fits : length v ≡ length d.switches) (m_in : op.switch.0 < length v) (Gone : ℕ → Type 0)
    (na : ¬ Gone x.first.0) (nb : ¬ Gone q.0) (gone_in : (n : ℕ) → Gone n → n < node_count d)
    (rest : (n : ℕ) → n < node_count d → n ≢ x.first.0 → n ≢ q.0 → Gone n) (S : ℕ → ℕ → Type 0)
    (stands : Replaces Gone (GapSight (AllBut (a_switch op.switch.0)) d v) S) where
  abbrev a : ℕ
  a = x.first.0

  abbrev b : ℕ
  b = q.0

  abbrev Rest : Item → Type 0
  Rest = AllBut (a_switch op.switch.0)

  abbrev Coupling : ℕ → ℕ → Type 0
  Coupling = TouchingBy Rest false d (with_breakers_closed d v)

  abbrev In : ℕ → Type 0
  In = ClosedAtBy Rest d v Infeed

  abbrev Ea : ℕ → Type 0
  Ea = ClosedAtBy Rest d v Earthing

  x_fits : SwitchFits d x
  x_fits = station.items.switches_fit op.switch.0 x listed

  a_low : a < FIRST_MARK
  a_low = let few = station.items.nodes_few in let f = x_fits.first_in in omega (arith, few, f)

  far_low : (o : Option NodeId) → x.second ≡ o → MatchOption o (q ≡ x.first) (λ p. q ≡ p) → b < FIRST_MARK
  far_low None e h = subst (λ (n : NodeId). n.0 < FIRST_MARK) (sym h) a_low
  far_low (Some p) e h =
      let few = station.items.nodes_few in
      let f = (second_fits d x p x_fits e).1 in
      subst (λ (n : NodeId). n.0 < FIRST_MARK) (sym h) (omega (arith, few, f))

  b_low : b < FIRST_MARK
  b_low = far_low x.second refl far

  mark_stays : (n : ℕ) → FIRST_MARK ≤ n → ¬ Gone n
  mark_stays n mark h =
      let low = gone_in n h in let few = station.items.nodes_few in omega (arith, mark, low, few)

  sight_from : (c e : ℕ) → GapSight Rest d v c e → c < node_count d
  sight_from c e h =
      let t : TouchedBy Rest d c = elim h [
        | inl k ↦ touching_touches Rest false d (with_breakers_closed d v) c e k
        | inr k ↦ elim k.1 [
          | inl z ↦ closed_touches Rest d v Infeed c z.1
          | inr z ↦ closed_touches Rest d v Earthing c z.1
        ]
      ] in
      within t.item c t.touches

  two : FromTwo S a b
  two = from_ends (node_count d) a b Gone (GapSight Rest d v) S stands sight_from
      rest

  apart : MarksApart IsMark Coupling (HasTwo In Ea)
  apart = gap_apart d station within Rest v

  abbrev Sees : ℕ → Type 0
  Sees mark = Linked (GapSight Rest d v) a mark ⊎ Linked (GapSight Rest d v) b mark

  see : (mark : ℕ) → FIRST_MARK ≤ mark → Sees mark ↔ (S a mark ⊎ S b mark)
  see mark high =
      let la = a_low in
      let lb = b_low in
      either_sees Gone (GapSight Rest d v) S stands a b na nb two mark (mark_stays mark high)
      (λ e. omega (arith, e, high, la)) (λ e. omega (arith, e, high, lb))

  coupled_in : (kind : Kind) → x.kind ≢ kind →
      (((n : ℕ) × Linked Coupling a n × ClosedAtBy Rest d v kind n)
      ⊎ ((n : ℕ) × Linked Coupling b n × ClosedAtBy Rest d v kind n)) ↔
      ((n : ℕ) × Coupled d (gap_vector x.kind v op) a n × ClosedAt d (gap_vector x.kind v op) kind n)
  coupled_in kind other = by x.second refl far
    where
      by : (o : Option NodeId) → x.second ≡ o → MatchOption o (q ≡ x.first) (λ p. q ≡ p) →
          (((n : ℕ) × Linked Coupling a n × ClosedAtBy Rest d v kind n)
          ⊎ ((n : ℕ) × Linked Coupling b n × ClosedAtBy Rest d v kind n)) ↔
          ((n : ℕ) × Coupled d (gap_vector x.kind v op) a n × ClosedAt d (gap_vector x.kind v op) kind n)
      by None e h =
          let one : ¬ IsTwoEnded x.kind =
          subst (λ o. MatchOption o (¬ IsTwoEnded x.kind)
          (λ p. IsTwoEnded x.kind × (p.0 < node_count d) × (p.0 ≢ x.first.0))) e x_fits.second in
          let same = one_kind x.kind v op one in
          let r = coupled_to_rest d op.switch.0 x listed v false kind one other a in (
            λ s. subst (λ w. (n : ℕ) × Coupled d w a n × ClosedAt d w kind n) (sym same) (r.1 (elim s [
              | inl k ↦ k
              | inr k ↦ subst (λ (z : NodeId). (n : ℕ) × Linked Coupling z.0 n × ClosedAtBy Rest d v kind n) h k
            ])),
            λ s. inl (r.0 (subst (λ w. (n : ℕ) × Coupled d w a n × ClosedAt d w kind n) same s)),
          )
      by (Some p) e h =
          let t = (second_fits d x p x_fits e).0 in
          let same = two_kinds x.kind v op t in
          let has : x.second ≡ Some q = e ∙ ap Some (sym h) in
          let c = closed_coupled_to d op.switch.0 x listed v m_in q has t kind other in (
            λ s. subst (λ w. (n : ℕ) × Coupled d w a n × ClosedAt d w kind n) (sym same) (c.1 s),
            λ s. c.0 (subst (λ w. (n : ℕ) × Coupled d w a n × ClosedAt d w kind n) same s),
          )

  pub on_term : x.kind ≢ Infeed → (S a first_mark ⊎ S b first_mark) ↔ Energisable d (gap_vector x.kind v op) a
  on_term other =
      let e = see first_mark (omega arith) in
      let fa = sees_first Coupling In Ea apart a a_low in
      let fb = sees_first Coupling In Ea apart b b_low in
      let c = coupled_in Infeed other in (
        λ s. c.0 (elim (e.1 s) [ inl l ↦ inl (fa.0 l) | inr l ↦ inr (fb.0 l) ]),
        λ s. e.0 (elim (c.1 s) [ inl l ↦ inl (fa.1 l) | inr l ↦ inr (fb.1 l) ]),
      )

  pub earth_term : x.kind ≢ Earthing → (S a second_mark ⊎ S b second_mark) ↔ Earthable d (gap_vector x.kind v op) a
  earth_term other =
      let e = see second_mark (omega arith) in
      let fa = sees_second Coupling In Ea apart a a_low in
      let fb = sees_second Coupling In Ea apart b b_low in
      let c = coupled_in Earthing other in (
        λ s. c.0 (elim (e.1 s) [ inl l ↦ inl (fa.0 l) | inr l ↦ inr (fb.0 l) ]),
        λ s. e.0 (elim (c.1 s) [ inl l ↦ inl (fa.1 l) | inr l ↦ inr (fb.1 l) ]),
      )
