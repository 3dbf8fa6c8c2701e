-- Each operation has an answer in each vector.
use Rattle.std.proofs.Common.{◌≡◌, ◌≢◌, ℕ, ◌<◌, ◌⊎◌, Bool, true, false, List, slice_get, slice_set, Option, Some, None}
use Rattle.std.proofs.Common.{refl, sym, ◌∙◌, subst, inl, inr, length-set}
use Rattle.std.specs.Prelude.{MatchOption}
use Rattle.ilk_base.specs.declared.words.Kind.{Kind}
use Rattle.ilk_base.specs.declared.words.NodeId.{NodeId}
use Rattle.ilk_base.specs.declared.words.Direction.{Direction}
use Rattle.ilk_base.specs.declared.words.Direction.TheVariants.{ToOff, ToOn}
use Rattle.ilk_base.specs.declared.words.Rule.{Rule}
use Rattle.ilk_base.specs.declared.words.Rule.TheVariants.{R1, R2, R3}
use Rattle.ilk_base.specs.declared.words.Op.{Op}
use Rattle.station_graph.specs.declared.items.Switch.{Switch}
use Rattle.station_graph.specs.Diagram.{Diagram, IsStation, IsTwoEnded, node_count}
use Rattle.station_graph.specs.Connection.{with_breakers_closed}
use Rattle.station_graph.specs.Supply.{Live, Quiet, Energisable, Earthable}
use Rattle.station_graph.specs.CentralRules.{before, after, IsOperation, BreaksEarthing, BreaksClosing, BreaksFeeding}
use Rattle.station_graph.specs.CentralRules.{GapCarriesLoad, BreaksLoad, Breaks}
use Rattle.station_graph.specs.Alike.{IsVector}
use Rattle.ilk_base.specs.declared.words.Kind.TheVariants.{Breaker, Disconnector, Earthing, Infeed}
use Rattle.station_graph.proofs.BreakerLemmas.{length-close_breakers}
use Rattle.station_graph.proofs.Decided.{element, linked_or_not, kind_eq, both, supplied_or_not, tapped_or_not}

direction_eq : (a b : Direction) → (a ≡ b) ⊎ (a ≢ b)
direction_eq ToOff ToOff = inl refl
direction_eq ToOn ToOn = inl refl
direction_eq ToOff ToOn = inr (λ e. cc)
direction_eq ToOn ToOff = inr (λ e. cc)

two_ended_or_not : (k : Kind) → IsTwoEnded k ⊎ ¬ IsTwoEnded k
two_ended_or_not Breaker = inl tt
two_ended_or_not Disconnector = inl tt
two_ended_or_not Earthing = inr (λ h. h)
two_ended_or_not Infeed = inr (λ h. h)

either : {P Q : Type 0} → P ⊎ ¬ P → Q ⊎ ¬ Q → (P ⊎ Q) ⊎ ¬ (P ⊎ Q)
either (inl p) q = inl (inl p)
either (inr p) (inl q) = inl (inr q)
either (inr p) (inr q) = inr (λ h. elim h [ inl a ↦ p a | inr b ↦ q b ])

neither : {P : Type 0} → P ⊎ ¬ P → (¬ P) ⊎ ¬ (¬ P)
neither (inl p) = inr (λ h. h p)
neither (inr p) = inl p

module _ (d : Diagram) (station : IsStation d) (v : List Bool) (fits : IsVector d v) where
  energisable_or_not : (n : ℕ) → n < node_count d → Energisable d v n ⊎ ¬ Energisable d v n
  energisable_or_not = supplied_or_not d station (with_breakers_closed d v) v (length-close_breakers d.switches v
      ∙ fits) fits Infeed

  earthable_or_not : (n : ℕ) → n < node_count d → Earthable d v n ⊎ ¬ Earthable d v n
  earthable_or_not = supplied_or_not d station (with_breakers_closed d v) v (length-close_breakers d.switches v ∙ fits)
      fits Earthing

  live_or_not : (n : ℕ) → n < node_count d → Live d v n ⊎ ¬ Live d v n
  live_or_not = supplied_or_not d station v v fits fits Infeed

  quiet_or_not : (n : ℕ) → n < node_count d → Quiet d v n ⊎ ¬ Quiet d v n
  quiet_or_not n n_in = elim (tapped_or_not d station v v fits fits n n_in) [
    | inl (m, tap, joined) ↦ inr (λ quiet. quiet m tap joined)
    | inr quiet ↦ inl quiet
  ]

  gap_or_not : (a b : ℕ) → a < node_count d → b < node_count d → GapCarriesLoad d v a b ⊎ ¬ GapCarriesLoad d v a b
  gap_or_not a b a_in b_in =
      elim (both (both (either (live_or_not a a_in) (live_or_not b b_in)) (both (neither (quiet_or_not a a_in))
      (neither (quiet_or_not b b_in)))) (neither (linked_or_not true d station v fits a b a_in b_in))) [
        | inl p ↦ inl (record { live = p.0.0; first_loaded = p.0.1.0; second_loaded = p.0.1.1; not_bonded = p.1 })
        | inr p ↦ inr (λ h. p ((h.live, (h.first_loaded, h.second_loaded)), h.not_bonded))
      ]

module _ (d : Diagram) (station : IsStation d) (v : List Bool) (fits : IsVector d v) (op : Op) (x : Switch)
    (at : slice_get d.switches op.switch.0 ≡ Some x) where
  fits_moved : (closed : Bool) → IsVector d (slice_set v op.switch.0 closed)
  fits_moved closed = length-set v op.switch.0 closed ∙ fits

  first_in : x.first.0 < node_count d
  first_in = (station.items.switches_fit op.switch.0 x at).first_in

  earthing_or_not : BreaksEarthing d v op ⊎ ¬ BreaksEarthing d v op
  earthing_or_not = elim (both (both (direction_eq op.direction ToOn) (kind_eq x.kind Earthing))
      (energisable_or_not d station (before v op) (fits_moved false) x.first.0 first_in)) [
        | inl p ↦ inl (record { switch = x; moves = at; closes = p.0.0; is_earthing = p.0.1; energisable = p.1 })
        | inr p ↦ inr (λ h.
            let same : h.switch ≡ x = cc (h.moves, at) in
            p (
              (h.closes, subst (λ (y : Switch). y.kind ≡ Earthing) same h.is_earthing),
              subst (λ (y : Switch). Energisable d (before v op) y.first.0) same h.energisable,
            ))
      ]

  feeding_or_not : BreaksFeeding d v op ⊎ ¬ BreaksFeeding d v op
  feeding_or_not = elim (both (both (direction_eq op.direction ToOn) (kind_eq x.kind Infeed))
      (earthable_or_not d station (before v op) (fits_moved false) x.first.0 first_in)) [
        | inl p ↦ inl (record { switch = x; moves = at; closes = p.0.0; is_infeed = p.0.1; earthable = p.1 })
        | inr p ↦ inr (λ h.
            let same : h.switch ≡ x = cc (h.moves, at) in
            p (
              (h.closes, subst (λ (y : Switch). y.kind ≡ Infeed) same h.is_infeed),
              subst (λ (y : Switch). Earthable d (before v op) y.first.0) same h.earthable,
            ))
      ]

  closing_or_not : BreaksClosing d v op ⊎ ¬ BreaksClosing d v op
  closing_or_not = elim (both (both (direction_eq op.direction ToOn) (two_ended_or_not x.kind))
      (both (energisable_or_not d station (after v op) (fits_moved true) x.first.0 first_in)
      (earthable_or_not d station (after v op) (fits_moved true) x.first.0 first_in))) [
        | inl p ↦ inl (record {
          switch = x;
          moves = at;
          closes = p.0.0;
          is_two_ended = p.0.1;
          energisable = p.1.0;
          earthable = p.1.1;
        })
        | inr p ↦ inr (λ h.
            let same : h.switch ≡ x = cc (h.moves, at) in
            p (
              (h.closes, subst (λ (y : Switch). IsTwoEnded y.kind) same h.is_two_ended),
              (
                subst (λ (y : Switch). Energisable d (after v op) y.first.0) same h.energisable,
                subst (λ (y : Switch). Earthable d (after v op) y.first.0) same h.earthable,
              ),
            ))
      ]

  load_case : (second : Option NodeId) → x.second ≡ second → BreaksLoad d v op ⊎ ¬ BreaksLoad d v op
  load_case None is = inr (λ h.
      let same : h.switch ≡ x = cc (h.moves, at) in
      let none : Some h.second ≡ None = sym (subst (λ (y : Switch). y.second ≡ Some h.second) same h.has_second) ∙ is in
      cc none)
  load_case (Some n) is =
      let second = subst (λ (o : Option NodeId). MatchOption o (¬ IsTwoEnded x.kind) (λ k. IsTwoEnded x.kind
      × (k.0 < node_count d) × (k.0 ≢ x.first.0))) is (station.items.switches_fit op.switch.0 x at).second in
      elim (both (kind_eq x.kind Disconnector) (gap_or_not d station (before v op) (fits_moved false) x.first.0 n.0
      first_in second.1)) [
        | inl p ↦ inl (record {
          switch = x;
          second = n;
          moves = at;
          is_disconnector = p.0;
          has_second = is;
          load = p.1;
        })
        | inr p ↦ inr (λ h.
            let same : h.switch ≡ x = cc (h.moves, at) in
            let both_some : Some h.second ≡ Some n =
            sym (subst (λ (y : Switch). y.second ≡ Some h.second) same h.has_second) ∙ is in
            let same_end : h.second ≡ n = cc both_some in
            p (
              subst (λ (y : Switch). y.kind ≡ Disconnector) same h.is_disconnector,
              subst (λ (k : NodeId). GapCarriesLoad d (before v op) x.first.0 k.0) same_end
                  (subst (λ (y : Switch). GapCarriesLoad d (before v op) y.first.0 h.second.0) same h.load),
            ))
      ]

  answered : (answer : Option Rule) × Breaks d v op answer
  answered = elim earthing_or_not [
    | inl one ↦ (Some R1, one)
    | inr one ↦ elim (either closing_or_not feeding_or_not) [
      | inl two ↦ (Some R2, (one, two))
      | inr two ↦ elim (load_case x.second refl) [
        | inl three ↦ (Some R3, (one, two, three))
        | inr three ↦ (None, (one, two, three))
      ]
    ]
  ]

-- an operation of the station has an answer
pub some_answer : (d : Diagram) (v : List Bool) (op : Op) → IsStation d → IsVector d v → IsOperation d op →
    (answer : Option Rule) × Breaks d v op answer
some_answer d v op station fits is_op =
    let x = element d.switches op.switch.0 is_op in
    answered d station v fits op x.0 x.1
