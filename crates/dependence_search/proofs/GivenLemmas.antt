-- Choices for positions that differ in one switch.
use Rattle.std.proofs.Common.{◌≡◌, ◌≢◌, ℕ, ◌-◌, ◌<◌, ◌≤◌, ◌⊎◌, zero, suc, Bool, true, false, eqb, ltb, not, List, [], ◌∷◌, length, get_or, slice_get}
use Rattle.std.proofs.Common.{slice_set, Some, refl, sym, ap, ◌∙◌, subst, inl, inr, arith, length-set}
use Rattle.std.specs.Prelude.{if◌then◌else◌}
use borrow.Author.Tests.{ltb-true, lt-ltb}
use Rattle.std.proofs.lemmas.Bool.{cases_eq, cases_lt, false≢true}
use Rattle.std.proofs.lemmas.Option.{slice_get_within, same_Some, slice_get-get_or}
use Rattle.ilk_base.specs.declared.words.SwitchId.{SwitchId}
use Rattle.station_graph.specs.Diagram.{Diagram}
use Rattle.station_graph.specs.Connection.{a_switch}
use Rattle.station_graph.proofs.PositionLemmas.{slice_get-set_other}
use Rattle.contraction.specs.Stands.{Among}
use Rattle.judge_pool.specs.Graphs.{other_of}
use Rattle.judge_intake.proofs.OtherLemmas.{switch_not, switches_apart, other_cases}
use Rattle.step_graphs.specs.declared.step.Step.{Step}
use Rattle.step_graphs.specs.declared.step.Step.TheVariants.{OfSwitch, OfLink, OfTap, OfNothing}
use Rattle.step_graphs.specs.Steps.{items_in, TakesIn, AreSteps, HasPosition}
use Rattle.step_graphs.specs.Moved.{AreGiven}
use Rattle.station_joints.specs.Chosen.{layer_of}
use Rattle.graph_walks.specs.Walks.{AreTwos}
use Rattle.dependence_search.specs.RuleWalks.{turned_at}

takes : (ss : List Step) (p : ℕ) (id : SwitchId) → slice_get ss p ≡ Some (OfSwitch id) → TakesIn ss p (a_switch id.0)
takes ss p id at = record { step = OfSwitch id; at = at; among = inl refl }

-- the switch of a step that takes one in
number_of : (id : SwitchId) (s : ℕ) → Among (items_in (OfSwitch id)) (a_switch s) → id.0 ≡ s
number_of id s (inl e) = cc
number_of id s (inr never) = absurd never

-- ---- the layer of a place

layer_cases : (b q : ℕ) → ((q < b) × (layer_of b q ≡ q)) ⊎ ((b ≤ q) × (layer_of b q ≡ q - 1))
layer_cases b q = by (ltb q b) refl
  where
    by : (t : Bool) → ltb q b ≡ t → ((q < b) × (layer_of b q ≡ q)) ⊎ ((b ≤ q) × (layer_of b q ≡ q - 1))
    by true e = inl (ltb-true q b e, ap (λ t. if t then q else q - 1) e)
    by false e = inr (
      elim (cases_lt q b) [
        | inl less ↦ absurd (false≢true (sym e ∙ lt-ltb q b less))
        | inr more ↦ more
      ],
      ap (λ t. if t then q else q - 1) e,
    )

pub layer_place : (b q : ℕ) → b ≢ q → other_of 0 b (layer_of b q) ≡ q
layer_place b q ne = elim (layer_cases b q) [
  | inl below ↦ elim (other_cases 0 b (layer_of b q)) [
    | inl x ↦ omega (arith, x.1, below.1)
    | inr x ↦ absurd (omega (arith, x.0, below.0, below.1))
  ]
  | inr above ↦ elim (other_cases 0 b (layer_of b q)) [
    | inl x ↦ absurd (omega (arith, x.0, above.0, above.1, ne))
    | inr x ↦ omega (arith, x.1, above.0, above.1, ne)
  ]
]

pub layer_in : (b q n : ℕ) → b ≢ q → q < suc n → b < suc n → layer_of b q < n
layer_in b q n ne lt moved_in = elim (layer_cases b q) [
  | inl below ↦ omega (arith, below.0, below.1, moved_in)
  | inr above ↦ omega (arith, above.0, above.1, lt, ne)
]

layers_apart : (b j k : ℕ) → j ≢ k → other_of 0 b j ≢ other_of 0 b k
layers_apart b j k ne e = elim (cases_lt j k) [
  | inl less ↦ switches_apart 0 b j k less e
  | inr more ↦ switches_apart 0 b k j (omega (arith, more, ne)) (sym e)
]

module _ (d : Diagram) (ss : List Step) (are : AreSteps d ss) (b : ℕ) where
  -- another place is that of another switch
  apart : (p q i s : ℕ) → TakesIn ss p (a_switch i) → TakesIn ss q (a_switch s) → p ≢ q → i ≢ s
  apart p q i s at_p at_q ne e = ne (are.once p q (a_switch i) at_p (subst (λ k. TakesIn ss q (a_switch k)) (sym e) at_q))

  -- positions that differ in the moved switch alone have the same choices
  pub given_same : (m : ℕ) (v w : List Bool) (cs : List ℕ) → TakesIn ss b (a_switch m) →
      ((i : ℕ) → i ≢ m → slice_get v i ≡ slice_get w i) → AreGiven ss b v cs → AreGiven ss b w cs
  given_same m v w cs here same given = record {
    count = given.count;
    small = given.small;
    each = λ j c s at at_s. by j c s at_s (given.each j c s at at_s);
  }
    where
      by : (j c : ℕ) (s : Step) → slice_get ss (other_of 0 b j) ≡ Some s → HasPosition s v (eqb c 1) →
          HasPosition s w (eqb c 1)
      by j c (OfSwitch id) at_s h =
          sym (same id.0 (apart (other_of 0 b j) b id.0 m (takes ss (other_of 0 b j) id at_s) here (switch_not 0 b j)))
          ∙ h
      by j c (OfLink i) at_s h = tt
      by j c (OfTap i) at_s h = tt
      by j c OfNothing at_s h = tt

  -- positions that differ in another switch alone have the same choices but in its layer
  module _ (v w : List Bool) (s l : ℕ) (here : TakesIn ss (other_of 0 b l) (a_switch s))
      (same : (i : ℕ) → i ≢ s → slice_get v i ≡ slice_get w i) where
    pub given_turned : (cs ds : List ℕ) → length ds ≡ length cs → ((j c : ℕ) → slice_get ds j ≡ Some c → c < 2) →
        ((j : ℕ) → j ≢ l → slice_get ds j ≡ slice_get cs j) →
        ((c : ℕ) → slice_get ds l ≡ Some c → slice_get w s ≡ Some (eqb c 1)) → AreGiven ss b v cs → AreGiven ss b w ds
    given_turned cs ds len small elsewhere turned given = record {
      count = ap suc len ∙ given.count;
      small = small;
      each = λ j c t at at_t. elim (cases_eq j l) [
        | inl equal ↦
            at_layer c t (ap (λ k. slice_get ds k) (sym equal) ∙ at)
            (ap (λ k. slice_get ss (other_of 0 b k)) (sym equal) ∙ at_t)
        | inr other ↦
            by j c t other at_t (given.each j c t (sym (elsewhere j other) ∙ at) at_t)
      ];
    }
      where
        at_layer : (c : ℕ) (t : Step) → slice_get ds l ≡ Some c → slice_get ss (other_of 0 b l) ≡ Some t →
            HasPosition t w (eqb c 1)
        at_layer c (OfSwitch id) at at_t =
            let same_step : here.step ≡ OfSwitch id = same_Some here.step (OfSwitch id) (sym here.at ∙ at_t) in
            let number : id.0 ≡ s =
            number_of id s (subst (λ (z : Step). Among (items_in z) (a_switch s)) same_step here.among) in
            ap (λ k. slice_get w k) number ∙ turned c at
        at_layer c (OfLink i) at at_t = tt
        at_layer c (OfTap i) at at_t = tt
        at_layer c OfNothing at at_t = tt

        by : (j c : ℕ) (t : Step) → j ≢ l → slice_get ss (other_of 0 b j) ≡ Some t → HasPosition t v (eqb c 1) →
            HasPosition t w (eqb c 1)
        by j c (OfSwitch id) ne at_t h =
            sym (same id.0
            (apart (other_of 0 b j) (other_of 0 b l) id.0 s (takes ss (other_of 0 b j) id at_t) here
            (layers_apart b j l ne)))
            ∙ h
        by j c (OfLink i) ne at_t h = tt
        by j c (OfTap i) ne at_t h = tt
        by j c OfNothing ne at_t h = tt

-- ---- the other choice

get_set : {X : Type 0} (xs : List X) (i : ℕ) (a : X) → i < length xs → slice_get (slice_set xs i a) i ≡ Some a
get_set [] i a lt = absurd (omega (arith, lt))
get_set (x ∷ xs) zero a lt = refl
get_set (x ∷ xs) (suc i) a lt = get_set xs i a (omega (arith, lt))

other_bit : (c : ℕ) → c < 2 → eqb (1 - c) 1 ≡ not (eqb c 1)
other_bit zero lt = refl
other_bit (suc zero) lt = refl
other_bit (suc (suc c)) lt = absurd (omega (arith, lt))

pub turned_long : (l : ℕ) (cs : List ℕ) → length (turned_at l cs) ≡ length cs
turned_long l cs = length-set cs l (1 - get_or cs l 0)

pub turned_small : (l : ℕ) (cs : List ℕ) → ((j c : ℕ) → slice_get cs j ≡ Some c → c < 2) → (j c : ℕ) →
    slice_get (turned_at l cs) j ≡ Some c → c < 2
turned_small l cs small j c at = elim (cases_eq j l) [
  | inl equal ↦
      let within : j < length cs = omega (arith, slice_get_within (turned_at l cs) j c at, turned_long l cs) in
      let is : 1 - get_or cs l 0 ≡ c = same_Some (1 - get_or cs l 0) c
      (sym (get_set cs l (1 - get_or cs l 0) (omega (arith, within, equal))) ∙ (ap (slice_get (turned_at l cs)) (sym equal) ∙ at)) in
      omega (arith, is)
  | inr other ↦ small j c (sym (slice_get-set_other cs l j (1 - get_or cs l 0) other) ∙ at)
]

pub turned_elsewhere : (l : ℕ) (cs : List ℕ) (j : ℕ) → j ≢ l → slice_get (turned_at l cs) j ≡ slice_get cs j
turned_elsewhere l cs j ne = slice_get-set_other cs l j (1 - get_or cs l 0) ne

-- at its layer it is the other one
pub turned_here : (l : ℕ) (cs : List ℕ) (c : ℕ) (x : Bool) → ((j c : ℕ) → slice_get cs j ≡ Some c → c < 2) →
    ((c : ℕ) → slice_get cs l ≡ Some c → x ≡ eqb c 1) → slice_get (turned_at l cs) l ≡ Some c → not x ≡ eqb c 1
turned_here l cs c x small is at =
    let within : l < length cs = omega (arith, slice_get_within (turned_at l cs) l c at, turned_long l cs) in
    let old : slice_get cs l ≡ Some (get_or cs l 0) = slice_get-get_or cs l 0 within in
    let new : 1 - get_or cs l 0 ≡ c = same_Some (1 - get_or cs l 0) c (sym (get_set cs l (1 - get_or cs l 0) within) ∙ at) in
    ap not (is (get_or cs l 0) old) ∙ (sym (other_bit (get_or cs l 0) (small l (get_or cs l 0) old)) ∙ ap (λ k. eqb k 1) new)

pub twos_turned : (n l : ℕ) (cs : List ℕ) → AreTwos n cs → AreTwos n (turned_at l cs)
twos_turned n l cs two = record { len = turned_long l cs ∙ two.len; small = turned_small l cs two.small }
