-- What is joined can be decided, and what is closed, supplied or tapped at a node.
use Rattle.std.proofs.Common.{◌≡◌, ◌≢◌, ℕ, ◌+◌, ◌<◌, ◌≤◌, ◌⊎◌, zero, suc, Bool, true, false, List, length, slice_get}
use Rattle.std.proofs.Common.{slice_index, Option, Some, None, refl, sym, ◌∙◌, subst, inl, inr, arith, add-one}
use Rattle.std.specs.List.{range_with_len}
use Rattle.std.proofs.lemmas.Option.{slice_get_within, slice_get_cases}
use Rattle.std.proofs.lemmas.Bool.{cases_eq, cases_lt}
use Rattle.std.proofs.lemmas.List.FromFn.{length-range_with_len, get_or-range_with_len}
use Rattle.ilk_base.specs.declared.words.Kind.{Kind}
use Rattle.ilk_base.specs.declared.words.NodeId.{NodeId}
use Rattle.station_graph.specs.declared.items.Switch.{Switch}
use Rattle.station_graph.specs.declared.items.Link.{Link}
use Rattle.station_graph.specs.declared.items.Tap.{Tap}
use Rattle.station_graph.specs.Diagram.{Diagram, IsStation, HasTap, node_count}
use Rattle.station_graph.specs.Connection.{Touching, Linked, Joined}
use Rattle.station_graph.specs.Supply.{ClosedAt, Quiet}
use Rattle.ilk_base.specs.declared.words.Kind.TheVariants.{Breaker, Disconnector, Earthing, Infeed}
use Rattle.station_graph.specs.Classes.{LabelsLeast, merged}
use Rattle.station_graph.proofs.ClassesLemmas.{KeepsLabels, KeepsLabels-alone, LabelsLeast-from_keeps}
use Rattle.station_graph.proofs.ClassesLemmas.{same_from_linked, linked_from_same}
use Rattle.station_graph.proofs.PartialEdges.{TouchingBelow, touching_back, below_none, after_closed, after_one_ended}
use Rattle.station_graph.proofs.PartialEdges.{after_open, after_link, after_passed_link, at_the_end}

-- the element at a place that is within the list
pub element : {X : Type 0} (xs : List X) (i : ℕ) → i < length xs → (x : X) × (slice_get xs i ≡ Some x)
element xs i h = elim ((slice_get_cases xs i).1) [ inl w ↦ (w.0, w.2) | inr w ↦ absurd (omega (arith, w.0)) ]

module _ (bonds_only : Bool) (d : Diagram) (station : IsStation d) (v : List Bool)
    (fits : length v ≡ length d.switches) where
  abbrev Kept : ℕ → ℕ → Type 0
  Kept i j = (labels : List ℕ) × KeepsLabels (TouchingBelow bonds_only d v i j) (node_count d) labels

  switch_step : (i : ℕ) (x : Switch) (closed : Bool) (second : Option NodeId) → slice_get d.switches i ≡ Some x →
      slice_get v i ≡ Some closed → x.second ≡ second → Kept i 0 → Kept (i + 1) 0
  switch_step i x true (Some n) at is two k = (
    merged k.0 x.first.0 n.0,
    after_closed bonds_only d station v k.0 i x n
        at two is k.1,
  )
  switch_step i x true None at is two k = (k.0, after_one_ended bonds_only d station v k.0 i x at two k.1)
  switch_step i x false second at is two k = (k.0, after_open bonds_only d station v k.0 i is k.1)

  switches_kept : (i : ℕ) → i ≤ length d.switches → Kept i 0
  switches_kept zero h = (
    range_with_len 0 (node_count d),
    KeepsLabels-alone (TouchingBelow bonds_only d v 0 0) (node_count d) (range_with_len 0 (node_count d))
        (length-range_with_len 0 (node_count d))
        (λ k k_in. get_or-range_with_len 0 (node_count d) k 0 k_in ∙ omega arith) (below_none bonds_only d v),
  )
  switches_kept (suc i) h =
      let x = element d.switches i (omega arith) in
      let closed = element v i (omega arith) in
      subst (λ k. Kept k 0) (add-one i) (switch_step i x.0 closed.0 x.0.second x.1 closed.1 refl
      (switches_kept i (omega arith)))

  link_step : (j : ℕ) (x : Link) (bonds bond : Bool) → slice_get d.links j ≡ Some x → bonds_only ≡ bonds →
      x.bond ≡ bond → Kept (length d.switches) j → Kept (length d.switches) (j + 1)
  link_step j x bonds true at is kind k = (
    merged k.0 x.first.0 x.second.0,
    after_link bonds_only d station v k.0
        (length d.switches) j x at (λ _. kind) k.1,
  )
  link_step j x false false at is kind k = (
    merged k.0 x.first.0 x.second.0,
    after_link bonds_only d station v k.0
        (length d.switches) j x at (λ e. absurd (cc)) k.1,
  )
  link_step j x true false at is kind k = (
    k.0,
    after_passed_link bonds_only d station v k.0 (length d.switches) j x at
        (λ h. let yes = h is in cc) k.1,
  )

  links_kept : (j : ℕ) → j ≤ length d.links → Kept (length d.switches) j
  links_kept zero h = switches_kept (length d.switches) (omega arith)
  links_kept (suc j) h =
      let x = element d.links j (omega arith) in
      subst (λ k. Kept (length d.switches) k) (add-one j) (link_step j x.0 bonds_only x.0.bond x.1 refl refl
      (links_kept j (omega arith)))

  -- there are labels
  some_labels : (labels : List ℕ) × LabelsLeast (Touching bonds_only d v) (node_count d) labels
  some_labels =
      let all = links_kept (length d.links) (omega arith) in (
        all.0,
        LabelsLeast-from_keeps (Touching bonds_only d v) (node_count d) all.0
            (at_the_end bonds_only d station v all.0 (length d.switches) (length d.links) refl refl all.1),
      )

  -- whether two nodes are linked is decided
  pub linked_or_not : (a b : ℕ) → a < node_count d → b < node_count d → Linked (Touching bonds_only d v) a b
      ⊎ ¬ Linked (Touching bonds_only d v) a b
  linked_or_not a b a_in b_in =
      let l = some_labels in
      elim (cases_eq (slice_index l.0 a) (slice_index l.0 b)) [
        | inl same ↦ inl (linked_from_same (Touching bonds_only d v) (node_count d) l.0 a b
            (touching_back bonds_only d v) l.1 a_in b_in same)
        | inr other ↦ inr (λ joined. other (same_from_linked (Touching bonds_only d v) (node_count d) l.0 a b
            (touching_back bonds_only d v) l.1 a_in b_in joined))
      ]

-- some element passes, or none does
any_or_none : {X : Type 0} (P : ℕ → X → Type 0) (xs : List X) → ((i : ℕ) (x : X) → slice_get xs i ≡ Some x → P i x
    ⊎ ¬ P i x) → (n : ℕ) → n ≤ length xs → ((i : ℕ) × (x : X) × (slice_get xs i ≡ Some x) × P i x)
    ⊎ ((i : ℕ) (x : X) → i < n → slice_get xs i ≡ Some x → ¬ P i x)
any_or_none P xs test zero h = inr (λ i x below at. absurd (omega (arith, below)))
any_or_none P xs test (suc n) h =
    let here = element xs n (omega arith) in
    elim (any_or_none P xs test n (omega arith)) [
      | inl found ↦ inl found
      | inr none ↦ elim (test n here.0 here.1) [
        | inl passes ↦ inl (n, here.0, here.1, passes)
        | inr fails ↦ inr (λ i x below at p. elim (cases_lt i n) [
          | inl less ↦ none i x less at p
          | inr more ↦
              let same_place : n ≡ i = omega (arith, below) in
              let same : here.0 ≡ x = cc (here.1, at, same_place) in
              fails (subst (λ y. P n y) (sym same) (subst (λ k. P k x) (sym same_place) p))
        ])
      ]
    ]

pub kind_eq : (a b : Kind) → (a ≡ b) ⊎ (a ≢ b)
kind_eq Breaker Breaker = inl refl
kind_eq Disconnector Disconnector = inl refl
kind_eq Earthing Earthing = inl refl
kind_eq Infeed Infeed = inl refl
kind_eq Breaker Disconnector = inr (λ e. cc)
kind_eq Breaker Earthing = inr (λ e. cc)
kind_eq Breaker Infeed = inr (λ e. cc)
kind_eq Disconnector Breaker = inr (λ e. cc)
kind_eq Disconnector Earthing = inr (λ e. cc)
kind_eq Disconnector Infeed = inr (λ e. cc)
kind_eq Earthing Breaker = inr (λ e. cc)
kind_eq Earthing Disconnector = inr (λ e. cc)
kind_eq Earthing Infeed = inr (λ e. cc)
kind_eq Infeed Breaker = inr (λ e. cc)
kind_eq Infeed Disconnector = inr (λ e. cc)
kind_eq Infeed Earthing = inr (λ e. cc)

pub both : {P Q : Type 0} → P ⊎ ¬ P → Q ⊎ ¬ Q → (P × Q) ⊎ ¬ (P × Q)
both (inl p) (inl q) = inl (p, q)
both (inl p) (inr q) = inr (λ h. q h.1)
both (inr p) q = inr (λ h. p h.0)

module _ (d : Diagram) (station : IsStation d) (w v : List Bool) (fits_w : length w ≡ length d.switches)
    (fits : length v ≡ length d.switches) where
  closed_or_not : (i : ℕ) → i < length d.switches → (slice_get v i ≡ Some true) ⊎ ¬ (slice_get v i ≡ Some true)
  closed_or_not i h = closed_case (element v i (omega arith)) where
    closed_case : (b : Bool) × (slice_get v i ≡ Some b) → (slice_get v i ≡ Some true) ⊎ ¬ (slice_get v i ≡ Some true)
    closed_case (true, at) = inl at
    closed_case (false, at) = inr (λ e. cc)

  -- a closed switch of the kind is joined to the node, or none is
  pub supplied_or_not : (kind : Kind) (n : ℕ) → n < node_count d → ((m : ℕ) × Joined d w n m × ClosedAt d v kind m)
      ⊎ ¬ ((m : ℕ) × Joined d w n m × ClosedAt d v kind m)
  supplied_or_not kind n n_in =
      let P : ℕ → Switch → Type 0 = λ i x. ((slice_get v i ≡ Some true) × (x.kind ≡ kind)) × Joined d w n x.first.0 in
      let test : (i : ℕ) (x : Switch) → slice_get d.switches i ≡ Some x → P i x ⊎ ¬ P i x = λ i x at.
      both (both (closed_or_not i (slice_get_within d.switches i x at)) (kind_eq x.kind kind))
      (linked_or_not false d station w fits_w n x.first.0 n_in (station.items.switches_fit i x at).first_in) in
      elim (any_or_none P d.switches test (length d.switches) (omega arith)) [
        | inl (i, x, at, p) ↦ inl (
          x.first.0,
          p.1,
          record {
            number = i;
            switch = x;
            listed = at;
            is_kind = p.0.1;
            closed = p.0.0;
            stands = refl;
          },
        )
        | inr none ↦ inr (λ (m, join, at).
            none at.number at.switch (slice_get_within d.switches at.number at.switch at.listed) at.listed
            ((at.closed, at.is_kind), subst (λ k. Joined d w n k) (sym at.stands) join))
      ]

  -- a tap is joined to the node, or none is
  pub tapped_or_not : (n : ℕ) → n < node_count d → ((m : ℕ) × HasTap d m × Joined d w n m) ⊎ Quiet d w n
  tapped_or_not n n_in =
      let P : ℕ → Tap → Type 0 = λ i x. Joined d w n x.node.0 in
      let test : (i : ℕ) (x : Tap) → slice_get d.taps i ≡ Some x → P i x ⊎ ¬ P i x = λ i x at.
      linked_or_not false d station w fits_w n x.node.0 n_in (station.items.taps_fit i x at).node_in in
      elim (any_or_none P d.taps test (length d.taps) (omega arith)) [
        | inl (i, x, at, p) ↦ inl (x.node.0, (i, x, at, refl), p)
        | inr none ↦ inr (λ m (i, x, at, stands) joined. none i x (slice_get_within d.taps i x at) at
            (subst (λ k. Joined d w n k) (sym stands) joined))
      ]
