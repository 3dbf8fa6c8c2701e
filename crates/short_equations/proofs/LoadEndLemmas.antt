-- What is left at the ends of a switch with two ends says in the load view and in the bond view.
use Rattle.std.proofs.Common.{◌≡◌, ◌≢◌, ◌<◌, ◌⊎◌, ◌↔◌, ℕ, Bool, true, false, List, length}
use Rattle.std.proofs.Common.{Some, subst, inl, inr, arith}
use Rattle.ilk_base.specs.declared.words.Kind.{Kind}
use Rattle.ilk_base.specs.declared.words.Kind.TheVariants.{Breaker, Disconnector, Earthing, Infeed}
use Rattle.ilk_base.specs.declared.words.NodeId.{NodeId}
use Rattle.ilk_base.specs.declared.words.Op.{Op}
use Rattle.station_graph.specs.declared.items.Switch.{Switch}
use Rattle.station_graph.specs.Diagram.{Diagram, HasTap, InfeedsTapped, IsTwoEnded}
use Rattle.station_graph.specs.Connection.{Item, a_switch, Linked, TouchingBy, Touching, Joined}
use Rattle.station_graph.specs.Supply.{Live}
use Rattle.station_graph.specs.Views.{ClosedAtBy, HasTapBy}
use Rattle.station_graph.specs.CentralRules.{before, Moves}
use Rattle.station_graph.proofs.LinkedLemmas.{linked_trans, linked_sym}
use Rattle.station_graph.proofs.PartialEdges.{touching_back}
use Rattle.contraction.specs.Stands.{AllBut}
use Rattle.contraction.proofs.EndsLemmas.{open_rest, live_rest}
use Rattle.short_equations.specs.declared.edge.TheConstants.{FIRST_MARK}
use Rattle.short_equations.specs.Edges.{IsMark}
use Rattle.short_equations.specs.Standing.{Replaces, MarksApart}
use Rattle.short_equations.specs.Sights.{HasTwo, first_mark, second_mark, LoadSight, BondSight}
use Rattle.short_equations.specs.Signals.{Tapped, LiveEnd}
use Rattle.short_equations.proofs.StandingLemmas.{sees_node}
use Rattle.short_equations.proofs.EndsLemmas.{FromTwo}
use Rattle.short_equations.proofs.TopLemmas.{either_sees, first_sees, both_linked, sees_first, sees_second}

no_infeed : (k : Kind) → IsTwoEnded k → k ≢ Infeed
no_infeed Breaker t e = cc
no_infeed Disconnector t e = cc
no_infeed Earthing t e = t
no_infeed Infeed t e = t

-- a switch with two ends
module _ (d : Diagram) (infeeds : InfeedsTapped d) (v : List Bool) (op : Op) (x : Switch) (moves : Moves d op x)
    (m_in : op.switch.0 < length v) (q : NodeId) (second : x.second ≡ Some q) (kind : IsTwoEnded x.kind)
    (first_node : x.first.0 < FIRST_MARK) (second_node : q.0 < FIRST_MARK) (differ : x.first.0 ≢ q.0) where
  abbrev m : ℕ
  m = op.switch.0

  abbrev a : ℕ
  a = x.first.0

  abbrev b : ℕ
  b = q.0

  abbrev Rest : Item → Type 0
  Rest = AllBut (a_switch m)

  abbrev Joining : ℕ → ℕ → Type 0
  Joining = TouchingBy Rest false d v

  mark_not_first : first_mark ≢ a
  mark_not_first e = omega (arith, e, first_node)

  mark_not_second : first_mark ≢ b
  mark_not_second e = omega (arith, e, second_node)

  more_not_first : second_mark ≢ a
  more_not_first e = omega (arith, e, first_node)

  more_not_second : second_mark ≢ b
  more_not_second e = omega (arith, e, second_node)

  module _ (Gone : ℕ → Type 0) (na : ¬ Gone a) (nb : ¬ Gone b) (n1 : ¬ Gone first_mark) (n2 : ¬ Gone second_mark)
      (J : ℕ → ℕ → Type 0) (load : Replaces Gone (LoadSight Rest d v) J) (two_j : FromTwo J a b)
      (load_apart : MarksApart IsMark Joining (HasTwo (ClosedAtBy Rest d v Infeed) (HasTapBy Rest d))) where
    abbrev In : ℕ → Type 0
    In = ClosedAtBy Rest d v Infeed

    pub live_exact : (J a first_mark ⊎ J b first_mark) ↔ LiveEnd d (before v op) a b
    live_exact =
        let e = either_sees Gone (LoadSight Rest d v) J load a b na nb two_j first_mark n1 mark_not_first mark_not_second in
        let fa = sees_first Joining In (HasTapBy Rest d) load_apart a first_node in
        let fb = sees_first Joining In (HasTapBy Rest d) load_apart b second_node in
        let ra = live_rest d m x moves v m_in (no_infeed x.kind kind) a in
        let rb = live_rest d m x moves v m_in (no_infeed x.kind kind) b in (
          λ s. elim (e.1 s) [ inl l ↦ inl (ra.1 (fa.0 l)) | inr l ↦ inr (rb.1 (fb.0 l)) ],
          λ h. e.0 (elim h [ inl l ↦ inl (fa.1 (ra.0 l)) | inr l ↦ inr (fb.1 (rb.0 l)) ]),
        )

    -- what is tapped in the station with the switch open
    tapped_there : (n : ℕ) → ((k : ℕ) × Linked Joining n k × HasTapBy Rest d k) → Tapped d (before v op) n
    tapped_there n (k, l, t) =
        (k, (t.number, t.tap, t.listed, t.stands), (open_rest d m x moves false v m_in n k).1 l)

    tapped_here : (n : ℕ) → Tapped d (before v op) n → (k : ℕ) × Linked Joining n k × HasTapBy Rest d k
    tapped_here n (k, (i, t, listed, stands), l) = (
      k,
      (open_rest d m x moves false v m_in n k).0 l,
      record { number = i; tap = t; listed = listed; stands = stands; among = λ e. cc },
    )

    -- a live end taps both where they are joined
    joined_ends : Joined d (before v op) a b ↔ J a b
    joined_ends =
        let s = sees_node IsMark Joining (HasTwo In (HasTapBy Rest d)) load_apart a b (λ k. omega (arith, k, second_node)) in
        let r = both_linked Gone (LoadSight Rest d v) J load a b na nb two_j differ in
        let o = open_rest d m x moves false v m_in a b in (
          λ l. r.0 (s.1 (o.0 l)),
          λ k. o.1 (s.0 (r.1 k)),
        )

    joined_back : (n k : ℕ) → Joined d (before v op) n k → Joined d (before v op) k n
    joined_back n k l = linked_sym _ (touching_back false d (before v op)) n k l

    live_taps : (n : ℕ) → Live d (before v op) n → Tapped d (before v op) n
    live_taps n (k, l, at) = (k, subst (HasTap d) at.stands (infeeds at.number at.switch at.listed at.is_kind), l)

    over_join : (n k : ℕ) → Joined d (before v op) n k → Tapped d (before v op) k → Tapped d (before v op) n
    over_join n k l (z, t, r) = (z, t, linked_trans _ n k z l r)

    both_tapped : Joined d (before v op) a b → LiveEnd d (before v op) a b →
        Tapped d (before v op) a × Tapped d (before v op) b
    both_tapped l (inl h) = let t = live_taps a h in (t, over_join b a (joined_back a b l) t)
    both_tapped l (inr h) = let t = live_taps b h in (over_join a b l t, t)

    pub loaded_exact : LiveEnd d (before v op) a b →
        (J a b ⊎ (J a second_mark × J b second_mark)) ↔ (Tapped d (before v op) a × Tapped d (before v op) b)
    loaded_exact live =
        let fa = sees_second Joining In (HasTapBy Rest d) load_apart a first_node in
        let fb = sees_second Joining In (HasTapBy Rest d) load_apart b second_node in
        let ea = first_sees Gone (LoadSight Rest d v) J load a b na nb two_j second_mark n2 more_not_first more_not_second in
        let turned : FromTwo J b a = λ c e s. elim (two_j c e s) [ inl p ↦ inr p | inr p ↦ inl p ] in
        let eb = first_sees Gone (LoadSight Rest d v) J load b a nb na turned second_mark n2 more_not_second more_not_first in (
          λ s. elim s [
            | inl k ↦ both_tapped (joined_ends.1 k) live
            | inr k ↦ (tapped_there a (fa.0 (load.back a second_mark k.0)), tapped_there b (fb.0 (load.back b second_mark k.1)))
          ],
          λ t. elim (ea.0 (fa.1 (tapped_here a t.0))) [
            | inr k ↦ inl k.0
            | inl k ↦ elim (eb.0 (fb.1 (tapped_here b t.1))) [
              | inl r ↦ inr (k, r)
              | inr r ↦ inl (joined_ends.0 (joined_back b a ((open_rest d m x moves false v m_in b a).1
                  ((sees_node IsMark Joining (HasTwo In (HasTapBy Rest d)) load_apart b a
                  (λ p. omega (arith, p, first_node))).0 (load.back b a r.0)))))
            ]
          ],
        )

  module _ (Gone : ℕ → Type 0) (na : ¬ Gone a) (nb : ¬ Gone b) (B : ℕ → ℕ → Type 0)
      (bond : Replaces Gone (BondSight Rest d v) B) (two_b : FromTwo B a b) where
    pub bond_exact : B a b ↔ Linked (Touching true d (before v op)) a b
    bond_exact =
        let r = both_linked Gone (BondSight Rest d v) B bond a b na nb two_b differ in
        let o = open_rest d m x moves true v m_in a b in (λ k. o.1 (r.1 k), λ l. r.0 (o.0 l))
