-- The sight of one switch, and of two sets of items together.
use Rattle.std.proofs.Common.{◌≡◌, ◌≢◌, ◌⊎◌, ◌↔◌, ◌<◌, ℕ, Bool, true, false, List, length}
use Rattle.std.proofs.Common.{slice_get, Some, refl, sym, ◌∙◌, ap, subst, inl, inr, arith}
use Rattle.std.proofs.lemmas.Option.{slice_get-get_or}
use Rattle.std.proofs.Common.{get_or}
use Rattle.ilk_base.specs.declared.words.Kind.{Kind}
use Rattle.ilk_base.specs.declared.words.Kind.TheVariants.{Breaker, Disconnector, Earthing, Infeed}
use Rattle.ilk_base.specs.declared.words.NodeId.{NodeId}
use Rattle.station_graph.specs.declared.items.Switch.{Switch}
use Rattle.station_graph.specs.Diagram.{Diagram, IsTwoEnded}
use Rattle.station_graph.specs.Connection.{Item, a_switch, a_link, a_tap, ItemBetween, ClosedBetween, TouchingBy}
use Rattle.station_graph.specs.Connection.{AreEnds, with_breakers_closed, unless_breaker}
use Rattle.station_graph.specs.Views.{ClosedAtBy, HasTapBy}
use Rattle.contraction.specs.Single.{Only}
use Rattle.contraction.proofs.ItemSets.{Either}
use Rattle.contraction.proofs.SwitchLemmas.{close_breakers_entry}
use Rattle.short_equations.specs.Edges.{IsMark}
use Rattle.short_equations.specs.Standing.{Or, Marked}
use Rattle.short_equations.specs.declared.view.View.TheVariants.{Gap}
use Rattle.short_equations.specs.Sights.{HasTwo, GapSight, LoadSight, BondSight, StepSight, step_in}

-- ---- one switch
module _ (d : Diagram) (i : ℕ) (x : Switch) (listed : slice_get d.switches i ≡ Some x) where
  abbrev This : Item → Type 0
  This = Only (a_switch i)

  abbrev number_of : Item → ℕ
  number_of (a_switch k) = k
  number_of (a_link k) = k
  number_of (a_tap k) = k

  same_switch : (y : Switch) (k : ℕ) → a_switch k ≡ a_switch i → slice_get d.switches k ≡ Some y → y ≡ x
  same_switch y k e at =
      let n : k ≡ i = cc in
      let there : slice_get d.switches i ≡ Some y = subst (λ j. slice_get d.switches j ≡ Some y) n at in
      cc (there, listed)

  pub touching_there : (bonds_only : Bool) (w : List Bool) (a b : ℕ) → TouchingBy This bonds_only d w a b →
      (q : NodeId) × (x.second ≡ Some q) × AreEnds x.first.0 q.0 a b × (IsTwoEnded x.kind × (slice_get w i ≡ Some true))
  touching_there bonds_only w a b h =
      let c : ClosedBetween d w i a b = subst (λ k. ItemBetween bonds_only d w k a b) h.among h.between in
      let same : c.switch ≡ x = cc (c.listed, listed) in (
        c.second,
        ap (λ (s : Switch). s.second) (sym same) ∙ c.has_second,
        subst (λ (s : Switch). AreEnds s.first.0 c.second.0 a b) same c.ends,
        (subst (λ (s : Switch). IsTwoEnded s.kind) same c.two_ended, c.closed),
      )

  pub touching_back : (bonds_only : Bool) (w : List Bool) (a b : ℕ) (q : NodeId) → x.second ≡ Some q →
      AreEnds x.first.0 q.0 a b → IsTwoEnded x.kind → slice_get w i ≡ Some true → TouchingBy This bonds_only d w a b
  touching_back bonds_only w a b q second ends two closed = record {
    item = a_switch i;
    among = refl;
    between = record {
      switch = x;
      second = q;
      listed = listed;
      two_ended = two;
      has_second = second;
      closed = closed;
      ends = ends;
    };
  }

  pub closed_there : (v : List Bool) (kind : Kind) (n : ℕ) → ClosedAtBy This d v kind n →
      (x.kind ≡ kind) × (n ≡ x.first.0) × (slice_get v i ≡ Some true)
  closed_there v kind n h =
      let number : h.at.number ≡ i = ap number_of h.among in
      let there : slice_get d.switches i ≡ Some h.at.switch =
      subst (λ j. slice_get d.switches j ≡ Some h.at.switch) number h.at.listed in
      let same : h.at.switch ≡ x = cc (there, listed) in (
        ap (λ (s : Switch). s.kind) (sym same) ∙ h.at.is_kind,
        sym h.at.stands ∙ ap (λ (s : Switch). s.first.0) same,
        subst (λ j. slice_get v j ≡ Some true) number h.at.closed,
      )

  pub closed_back : (v : List Bool) (kind : Kind) (n : ℕ) → x.kind ≡ kind → n ≡ x.first.0 → slice_get v i ≡ Some true →
      ClosedAtBy This d v kind n
  closed_back v kind n is at closed = record {
    at = record { number = i; switch = x; listed = listed; is_kind = is; closed = closed; stands = sym at };
    among = refl;
  }

  module _ (v : List Bool) (i_in : i < length v) where
    entry : slice_get v i ≡ Some (get_or v i false)
    entry = slice_get-get_or v i false i_in

    coupled_entry : slice_get (with_breakers_closed d v) i ≡ Some (unless_breaker x.kind (get_or v i false))
    coupled_entry = close_breakers_entry d.switches v i x (get_or v i false) listed entry

    is_closed : (b : Bool) → b ≡ get_or v i false → b ≡ true → slice_get v i ≡ Some true
    is_closed b e t = entry ∙ ap Some (sym e ∙ t)

    -- where a disconnector counts as closed
    kept_closed : (k : Kind) → k ≡ x.kind → k ≢ Breaker → slice_get (with_breakers_closed d v) i ≡ Some true →
        slice_get v i ≡ Some true
    kept_closed Breaker e ne at = absurd (ne refl)
    kept_closed Disconnector e ne at =
        let c : slice_get (with_breakers_closed d v) i ≡ Some (get_or v i false) =
        subst (λ k. slice_get (with_breakers_closed d v) i ≡ Some (unless_breaker k (get_or v i false))) (sym e)
        coupled_entry in
        entry ∙ (sym c ∙ at)
    kept_closed Earthing e ne at =
        let c : slice_get (with_breakers_closed d v) i ≡ Some (get_or v i false) =
        subst (λ k. slice_get (with_breakers_closed d v) i ≡ Some (unless_breaker k (get_or v i false))) (sym e)
        coupled_entry in
        entry ∙ (sym c ∙ at)
    kept_closed Infeed e ne at =
        let c : slice_get (with_breakers_closed d v) i ≡ Some (get_or v i false) =
        subst (λ k. slice_get (with_breakers_closed d v) i ≡ Some (unless_breaker k (get_or v i false))) (sym e)
        coupled_entry in
        entry ∙ (sym c ∙ at)

    breaker_coupled : Breaker ≡ x.kind → slice_get (with_breakers_closed d v) i ≡ Some true
    breaker_coupled e =
        subst (λ k. slice_get (with_breakers_closed d v) i ≡ Some (unless_breaker k (get_or v i false))) (sym e)
        coupled_entry

    still_coupled : Disconnector ≡ x.kind → slice_get v i ≡ Some true →
        slice_get (with_breakers_closed d v) i ≡ Some true
    still_coupled e at =
        let c : slice_get (with_breakers_closed d v) i ≡ Some (get_or v i false) =
        subst (λ k. slice_get (with_breakers_closed d v) i ≡ Some (unless_breaker k (get_or v i false))) (sym e)
        coupled_entry in
        c ∙ (sym entry ∙ at)

    abbrev Closed : Type 0
    Closed = slice_get v i ≡ Some true

    gap_there : (k : Kind) → k ≡ x.kind → (a b : ℕ) → GapSight This d v a b → StepSight (step_in Gap k) x Closed a b
    gap_there Breaker e a b (inl t) =
        let (q, second, ends, more) = touching_there false (with_breakers_closed d v) a b t in (q, second, ends)
    gap_there Breaker e a b (inr h) = elim h.1 [
      | inl k ↦ let c = closed_there v Infeed a k.1 in let f = e ∙ c.0 in cc
      | inr k ↦ let c = closed_there v Earthing a k.1 in let f = e ∙ c.0 in cc
    ]
    gap_there Disconnector e a b (inl t) =
        let (q, second, ends, more) = touching_there false (with_breakers_closed d v) a b t in
        (q, second, ends, kept_closed Disconnector e (λ f. cc) more.1)
    gap_there Disconnector e a b (inr h) = elim h.1 [
      | inl k ↦ let c = closed_there v Infeed a k.1 in let f = e ∙ c.0 in cc
      | inr k ↦ let c = closed_there v Earthing a k.1 in let f = e ∙ c.0 in cc
    ]
    gap_there Earthing e a b (inl t) =
        let (q, second, ends, more) = touching_there false (with_breakers_closed d v) a b t in
        absurd (subst IsTwoEnded (sym e) more.0)
    gap_there Earthing e a b (inr h) = elim h.1 [
      | inl k ↦ let c = closed_there v Infeed a k.1 in let f = e ∙ c.0 in cc
      | inr k ↦ let c = closed_there v Earthing a k.1 in (c.1, k.0, c.2)
    ]
    gap_there Infeed e a b (inl t) =
        let (q, second, ends, more) = touching_there false (with_breakers_closed d v) a b t in
        absurd (subst IsTwoEnded (sym e) more.0)
    gap_there Infeed e a b (inr h) = elim h.1 [
      | inl k ↦ let c = closed_there v Infeed a k.1 in (c.1, k.0, c.2)
      | inr k ↦ let c = closed_there v Earthing a k.1 in let f = e ∙ c.0 in cc
    ]

    gap_back : (k : Kind) → k ≡ x.kind → (a b : ℕ) → StepSight (step_in Gap k) x Closed a b → GapSight This d v a b
    gap_back Breaker e a b (q, second, ends) =
        inl (touching_back false (with_breakers_closed d v) a b q second ends (subst IsTwoEnded e tt)
        (breaker_coupled e))
    gap_back Disconnector e a b (q, second, ends, closed) =
        inl (touching_back false (with_breakers_closed d v) a b q second ends (subst IsTwoEnded e tt)
        (still_coupled e closed))
    gap_back Earthing e a b (at, mark, closed) =
        inr (omega (arith, mark), inr (mark, closed_back v Earthing a (sym e) at closed))
    gap_back Infeed e a b (at, mark, closed) =
        inr (omega (arith, mark), inl (mark, closed_back v Infeed a (sym e) at closed))

    -- THE GAP SIGHT OF ONE SWITCH
    pub gap_of_switch : (a b : ℕ) → GapSight This d v a b ↔ StepSight (step_in Gap x.kind) x Closed a b
    gap_of_switch a b = (gap_there x.kind refl a b, gap_back x.kind refl a b)

-- ---- two sets of items
touching_either : (These Those : Item → Type 0) (bonds_only : Bool) (d : Diagram) (v : List Bool) (a b : ℕ) →
    TouchingBy (Either These Those) bonds_only d v a b ↔
    (TouchingBy These bonds_only d v a b ⊎ TouchingBy Those bonds_only d v a b)
touching_either These Those bonds_only d v a b = (
  λ h. elim h.among [
    | inl m ↦ inl (record { item = h.item; among = m; between = h.between })
    | inr m ↦ inr (record { item = h.item; among = m; between = h.between })
  ],
  λ s. elim s [
    | inl h ↦ record { item = h.item; among = inl h.among; between = h.between }
    | inr h ↦ record { item = h.item; among = inr h.among; between = h.between }
  ],
)

closed_either : (These Those : Item → Type 0) (d : Diagram) (v : List Bool) (kind : Kind) (n : ℕ) →
    ClosedAtBy (Either These Those) d v kind n ↔ (ClosedAtBy These d v kind n ⊎ ClosedAtBy Those d v kind n)
closed_either These Those d v kind n = (
  λ h. elim h.among [
    | inl m ↦ inl (record { at = h.at; among = m })
    | inr m ↦ inr (record { at = h.at; among = m })
  ],
  λ s. elim s [
    | inl h ↦ record { at = h.at; among = inl h.among }
    | inr h ↦ record { at = h.at; among = inr h.among }
  ],
)

tap_either : (These Those : Item → Type 0) (d : Diagram) (n : ℕ) →
    HasTapBy (Either These Those) d n ↔ (HasTapBy These d n ⊎ HasTapBy Those d n)
tap_either These Those d n = (
  λ h. elim h.among [
    | inl m ↦ inl (record { number = h.number; tap = h.tap; listed = h.listed; stands = h.stands; among = m })
    | inr m ↦ inr (record { number = h.number; tap = h.tap; listed = h.listed; stands = h.stands; among = m })
  ],
  λ s. elim s [
    | inl h ↦ record { number = h.number; tap = h.tap; listed = h.listed; stands = h.stands; among = inl h.among }
    | inr h ↦ record { number = h.number; tap = h.tap; listed = h.listed; stands = h.stands; among = inr h.among }
  ],
)

-- a relation with two marks, of which each part is that of either of two
marked_either : (T T1 T2 : ℕ → ℕ → Type 0) (P P1 P2 Q Q1 Q2 : ℕ → Type 0) (a b : ℕ) → T a b ↔ (T1 a b ⊎ T2 a b) →
    P a ↔ (P1 a ⊎ P2 a) → Q a ↔ (Q1 a ⊎ Q2 a) →
    Marked IsMark T (HasTwo P Q) a b ↔ Or (Marked IsMark T1 (HasTwo P1 Q1)) (Marked IsMark T2 (HasTwo P2 Q2)) a b
marked_either T T1 T2 P P1 P2 Q Q1 Q2 a b t i e = (
  λ h. elim h [
    | inl k ↦ elim (t.0 k) [ inl l ↦ inl (inl l) | inr l ↦ inr (inl l) ]
    | inr k ↦ elim k.1 [
      | inl c ↦ elim (i.0 c.1) [
        | inl l ↦ inl (inr (k.0, inl (c.0, l)))
        | inr l ↦ inr (inr (k.0, inl (c.0, l)))
      ]
      | inr c ↦ elim (e.0 c.1) [
        | inl l ↦ inl (inr (k.0, inr (c.0, l)))
        | inr l ↦ inr (inr (k.0, inr (c.0, l)))
      ]
    ]
  ],
  λ h. elim h [
    | inl k ↦ elim k [
      | inl l ↦ inl (t.1 (inl l))
      | inr l ↦ elim l.1 [
        | inl c ↦ inr (l.0, inl (c.0, i.1 (inl c.1)))
        | inr c ↦ inr (l.0, inr (c.0, e.1 (inl c.1)))
      ]
    ]
    | inr k ↦ elim k [
      | inl l ↦ inl (t.1 (inr l))
      | inr l ↦ elim l.1 [
        | inl c ↦ inr (l.0, inl (c.0, i.1 (inr c.1)))
        | inr c ↦ inr (l.0, inr (c.0, e.1 (inr c.1)))
      ]
    ]
  ],
)

-- THE SIGHTS OF TWO SETS OF ITEMS TOGETHER
pub gap_either : (These Those : Item → Type 0) (d : Diagram) (v : List Bool) (a b : ℕ) →
    GapSight (Either These Those) d v a b ↔ Or (GapSight These d v) (GapSight Those d v) a b
gap_either These Those d v a b =
    marked_either (TouchingBy (Either These Those) false d (with_breakers_closed d v))
    (TouchingBy These false d (with_breakers_closed d v)) (TouchingBy Those false d (with_breakers_closed d v))
    (ClosedAtBy (Either These Those) d v Infeed) (ClosedAtBy These d v Infeed) (ClosedAtBy Those d v Infeed)
    (ClosedAtBy (Either These Those) d v Earthing) (ClosedAtBy These d v Earthing) (ClosedAtBy Those d v Earthing) a b
    (touching_either These Those false d (with_breakers_closed d v) a b) (closed_either These Those d v Infeed a)
    (closed_either These Those d v Earthing a)

pub load_either : (These Those : Item → Type 0) (d : Diagram) (v : List Bool) (a b : ℕ) →
    LoadSight (Either These Those) d v a b ↔ Or (LoadSight These d v) (LoadSight Those d v) a b
load_either These Those d v a b =
    marked_either (TouchingBy (Either These Those) false d v) (TouchingBy These false d v) (TouchingBy Those false d v)
    (ClosedAtBy (Either These Those) d v Infeed) (ClosedAtBy These d v Infeed) (ClosedAtBy Those d v Infeed)
    (HasTapBy (Either These Those) d) (HasTapBy These d) (HasTapBy Those d) a b
    (touching_either These Those false d v a b) (closed_either These Those d v Infeed a) (tap_either These Those d a)

pub bond_either : (These Those : Item → Type 0) (d : Diagram) (v : List Bool) (a b : ℕ) →
    BondSight (Either These Those) d v a b ↔ Or (BondSight These d v) (BondSight Those d v) a b
bond_either These Those d v a b = touching_either These Those true d v a b
