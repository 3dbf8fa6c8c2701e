-- The nodes where closed switches of a kind stand, and those of taps, item by item.
use Rattle.std.proofs.Common.{◌≡◌, ℕ, ◌+◌, ◌<◌, ◌≤◌, ◌↔◌, Bool, true, List, [], ◌∷◌, ◌++◌, length, slice_get, Contains}
use Rattle.std.proofs.Common.{Some, refl, sym, ◌∙◌, ap, subst, inl, inr, arith}
use Rattle.std.proofs.lemmas.Bool.{cases_lt}
use Rattle.std.proofs.lemmas.Option.{slice_get_within}
use Rattle.std.proofs.lemmas.List.Elements.{Contains-push, Contains-push_cases, Contains-append_left}
use Rattle.ilk_base.specs.declared.words.Kind.{Kind}
use Rattle.station_graph.specs.declared.items.Switch.{Switch}
use Rattle.station_graph.specs.declared.items.Tap.{Tap}
use Rattle.station_graph.specs.Diagram.{Diagram, HasTap, IsStation, node_count}
use Rattle.station_graph.specs.Supply.{ClosedAt}
use Rattle.station_graph.proofs.PathLemmas.{Contains-from_slice_get}
use Rattle.denial_explain.specs.Ways.{AllBelow}

-- Of a list of items, those that count stand at these nodes: At i n says that item i counts and stands at n.
pub record Gathers (At : ℕ → ℕ → Type 0) (i : ℕ) (nodes : List ℕ) : Type 0 where
  pub listed : (k n : ℕ) → k < i → At k n → Contains nodes n
  pub only : (n : ℕ) → Contains nodes n → (k : ℕ) × (k < i) × At k n

module _ (At : ℕ → ℕ → Type 0) (i : ℕ) (nodes : List ℕ) (h : Gathers At i nodes) where
  Gathers-push : (node : ℕ) → At i node → ((n : ℕ) → At i n → n ≡ node) → Gathers At (i + 1) (nodes ++ node ∷ [])
  Gathers-push node here one = record {
    listed = λ k n below at. elim (cases_lt k i) [
      | inl less ↦ Contains-append_left nodes (node ∷ []) n (h.listed k n less at)
      | inr more ↦
          let same : k ≡ i = omega (arith, below) in
          subst (λ m. Contains (nodes ++ node ∷ []) m) (sym (one n (subst (λ j. At j n) same at)))
          (Contains-push nodes node)
    ];
    only = λ n c. elim (Contains-push_cases nodes node n c) [
      | inl old ↦ let w = h.only n old in (w.0, omega (arith, w.1), w.2)
      | inr new ↦ (i, omega arith, subst (At i) new here)
    ];
  }

  Gathers-pass : ((n : ℕ) → At i n → ⊥) → Gathers At (i + 1) nodes
  Gathers-pass none = record {
    listed = λ k n below at. elim (cases_lt k i) [
      | inl less ↦ h.listed k n less at
      | inr more ↦ let same : k ≡ i = omega (arith, below) in absurd (none n (subst (λ j. At j n) same at))
    ];
    only = λ n c. let w = h.only n c in (w.0, omega (arith, w.1), w.2);
  }

-- Switch i is of the kind, is closed in v, and stands at the node.
pub record ClosedSwitch (d : Diagram) (v : List Bool) (kind : Kind) (i node : ℕ) : Type 0 where
  pub switch : Switch
  pub listed : slice_get d.switches i ≡ Some switch
  pub is_kind : switch.kind ≡ kind
  pub closed : slice_get v i ≡ Some true
  pub stands : switch.first.0 ≡ node

module _ (d : Diagram) (v : List Bool) (kind : Kind) where
  closed_from : (i n : ℕ) → ClosedSwitch d v kind i n → ClosedAt d v kind n
  closed_from i n h = record {
    number = i;
    switch = h.switch;
    listed = h.listed;
    is_kind = h.is_kind;
    closed = h.closed;
    stands = h.stands;
  }

  closed_to : (n : ℕ) (at : ClosedAt d v kind n) → ClosedSwitch d v kind at.number n
  closed_to n at = record {
    switch = at.switch;
    listed = at.listed;
    is_kind = at.is_kind;
    closed = at.closed;
    stands = at.stands;
  }

  module _ (i : ℕ) (nodes : List ℕ) (x : Switch) (listed : slice_get d.switches i ≡ Some x)
      (h : Gathers (ClosedSwitch d v kind) i nodes) where
    pub gathers_closed : x.kind ≡ kind → slice_get v i ≡ Some true →
        Gathers (ClosedSwitch d v kind) (i + 1) (nodes ++ x.first.0 ∷ [])
    gathers_closed is_kind closed =
        Gathers-push (ClosedSwitch d v kind) i nodes h x.first.0
        (record { switch = x; listed = listed; is_kind = is_kind; closed = closed; stands = refl })
        (λ n at. let same : at.switch ≡ x = cc (at.listed, listed) in sym at.stands
        ∙ ap (λ (y : Switch). y.first.0) same)

    pub passes_other : (x.kind ≡ kind → slice_get v i ≡ Some true → ⊥) → Gathers (ClosedSwitch d v kind) (i + 1) nodes
    passes_other none =
        Gathers-pass (ClosedSwitch d v kind) i nodes h (λ n at.
        let same : at.switch ≡ x = cc (at.listed, listed) in
        none (ap (λ (y : Switch). y.kind) (sym same) ∙ at.is_kind) at.closed)

  pub closed_exact : (i : ℕ) (nodes : List ℕ) → length d.switches ≤ i → Gathers (ClosedSwitch d v kind) i nodes →
      (n : ℕ) → Contains nodes n ↔ ClosedAt d v kind n
  closed_exact i nodes all h n = (
    λ c. let w = h.only n c in closed_from w.0 n w.2,
    λ at. h.listed at.number n (omega (arith, slice_get_within d.switches at.number at.switch at.listed))
        (closed_to n at),
  )

  -- where switch i is not one of them, each of those after the switches before it comes after it
  pub closed_later : (i node : ℕ) (x : Switch) → slice_get d.switches i ≡ Some x →
      (x.kind ≡ kind → slice_get v i ≡ Some true → x.first.0 ≡ node → ⊥) → ((at : ClosedAt d v kind node) →
      i ≤ at.number) → (at : ClosedAt d v kind node) → i + 1 ≤ at.number
  closed_later i node x listed none from at = elim (cases_lt i at.number) [
    | inl less ↦ omega arith
    | inr more ↦
        let here : at.number ≡ i = omega (arith, from at) in
        let same : at.switch ≡ x = cc (at.listed, listed, here) in
        absurd (none (ap (λ (y : Switch). y.kind) (sym same) ∙ at.is_kind) (ap (slice_get v) (sym here) ∙ at.closed)
        (ap (λ (y : Switch). y.first.0) (sym same) ∙ at.stands))
  ]

  -- where closed switches stand is a node of the station
  pub closed_below : IsStation d → (nodes : List ℕ) → ((n : ℕ) → Contains nodes n ↔ ClosedAt d v kind n) →
      AllBelow (node_count d) nodes
  closed_below station nodes exact i n e =
      let at = (exact n).0 (Contains-from_slice_get nodes i n e) in
      subst (λ m. m < node_count d) at.stands (station.items.switches_fit at.number at.switch at.listed).first_in

-- Tap i stands at the node.
pub record TapAt (d : Diagram) (i node : ℕ) : Type 0 where
  pub tap : Tap
  pub listed : slice_get d.taps i ≡ Some tap
  pub stands : tap.node.0 ≡ node

module _ (d : Diagram) where
  pub gathers_tap : (i : ℕ) (nodes : List ℕ) (x : Tap) → slice_get d.taps i ≡ Some x → Gathers (TapAt d) i nodes →
      Gathers (TapAt d) (i + 1) (nodes ++ x.node.0 ∷ [])
  gathers_tap i nodes x listed h =
      Gathers-push (TapAt d) i nodes h x.node.0 (record { tap = x; listed = listed; stands = refl })
      (λ n at. let same : at.tap ≡ x = cc (at.listed, listed) in sym at.stands ∙ ap (λ (y : Tap). y.node.0) same)

  pub taps_exact : (i : ℕ) (nodes : List ℕ) → length d.taps ≤ i → Gathers (TapAt d) i nodes → (n : ℕ) → Contains nodes n
      ↔ HasTap d n
  taps_exact i nodes all h n = (
    λ c. let w = h.only n c in let t = w.2 in (w.0, t.tap, t.listed, t.stands),
    λ (k, x, listed, stands). h.listed k n (omega (arith, slice_get_within d.taps k x listed)) (record {
      tap = x;
      listed = listed;
      stands = stands;
    }),
  )

  pub taps_below : IsStation d → (nodes : List ℕ) → ((n : ℕ) → Contains nodes n ↔ HasTap d n) →
      AllBelow (node_count d) nodes
  taps_below station nodes exact i n e =
      let tap = (exact n).0 (Contains-from_slice_get nodes i n e) in
      subst (λ m. m < node_count d) tap.3 (station.items.taps_fit tap.0 tap.1 tap.2).node_in
