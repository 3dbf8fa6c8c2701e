-- For any choices there is a vector that gives them.
use Rattle.std.proofs.Common.{◌≡◌, ℕ, ◌-◌, ◌<◌, ◌≤◌, suc, Bool, true, false, eqb, ltb, List, length, get_or, slice_get, Some}
use Rattle.std.proofs.Common.{refl, sym, ap, ◌∙◌, inl, inr, arith}
use Rattle.std.specs.Prelude.{if◌then◌else◌}
use borrow.Author.Tests.{lt-ltb, ltb-true}
use Rattle.std.proofs.lemmas.Bool.{cases_Bool}
use Rattle.std.proofs.lemmas.Option.{get_or_from_slice_get}
use Rattle.station_graph.specs.Diagram.{Diagram}
use Rattle.station_graph.specs.Connection.{a_switch}
use Rattle.station_graph.specs.Alike.{IsVector}
use Rattle.contraction.proofs.ListedLemmas.{list_of}
use Rattle.judge_pool.specs.Graphs.{other_of}
use Rattle.judge_intake.proofs.OtherLemmas.{other_cases, element}
use Rattle.step_graphs.specs.declared.step.Step.{Step}
use Rattle.step_graphs.specs.declared.step.Step.TheVariants.{OfSwitch, OfLink, OfTap, OfNothing}
use Rattle.step_graphs.specs.Moved.{AreGiven}
use Rattle.step_graphs.specs.Steps.{AreSteps, TakesIn, HasPosition}
use Rattle.station_joints.specs.Chosen.{layer_of}

-- ---- the layer of a step is the place of its choice

test_is : (t : Bool) (p : ℕ) → t ≡ true → (if t then p else p - 1) ≡ p
test_is t p e = ap (λ (x : Bool). if x then p else p - 1) e

test_not : (t : Bool) (p : ℕ) → t ≡ false → (if t then p else p - 1) ≡ p - 1
test_not t p e = ap (λ (x : Bool). if x then p else p - 1) e

not_less : (p b : ℕ) → b ≤ p → ltb p b ≡ false
not_less p b le = elim (cases_Bool (ltb p b)) [
  | inl less ↦ absurd (omega (arith, ltb-true p b less, le))
  | inr more ↦ more
]

layer_back : (b j : ℕ) → layer_of b (other_of 0 b j) ≡ j
layer_back b j = elim (other_cases 0 b j) [
  | inl x ↦
      test_is (ltb (other_of 0 b j) b) (other_of 0 b j)
      (lt-ltb (other_of 0 b j) b (omega (arith, x.0, x.1)))
      ∙ omega (arith, x.1)
  | inr x ↦
      test_not (ltb (other_of 0 b j) b) (other_of 0 b j)
      (not_less (other_of 0 b j) b (omega (arith, x.0, x.1)))
      ∙ omega (arith, x.1)
]

-- ---- the vector

module _ (d : Diagram) (steps : List Step) (are : AreSteps d steps) (b : ℕ) (cs : List ℕ) where
  -- the position of switch i is the choice for its step, where there is one
  abbrev IsChosen : ℕ → Bool → Type 0
  IsChosen i closed =
      (j k : ℕ) → TakesIn steps (other_of 0 b j) (a_switch i) → slice_get cs j ≡ Some k → eqb k 1 ≡ closed

  chosen : (i : ℕ) → i < length d.switches → (closed : Bool) × IsChosen i closed
  chosen i lt =
      let (p, t) = are.each (a_switch i) lt in (
        eqb (get_or cs (layer_of b p) 0) 1,
        λ j k u at.
            let is : other_of 0 b j ≡ p = are.once (other_of 0 b j) p (a_switch i) u t in
            let layer : layer_of b p ≡ j = ap (λ q. layer_of b q) (sym is) ∙ layer_back b j in
            let choice : get_or cs (layer_of b p) 0 ≡ k =
            ap (λ q. get_or cs q 0) layer ∙ get_or_from_slice_get cs j k 0 at in
            ap (λ z. eqb z 1) (sym choice),
      )

  position : (v : List Bool) → length v ≡ length d.switches →
      ((i : ℕ) (x : Bool) → slice_get v i ≡ Some x → IsChosen i x) → (j c : ℕ) (s : Step) → slice_get cs j ≡ Some c →
      slice_get steps (other_of 0 b j) ≡ Some s → HasPosition s v (eqb c 1)
  position v len holds j c (OfSwitch id) at at_s =
      let within : id.0 < length d.switches = are.fit (other_of 0 b j) (OfSwitch id) at_s in
      let (x, at_x) = element v id.0 (omega (arith, within, len)) in
      let t : TakesIn steps (other_of 0 b j) (a_switch id.0) =
      record { step = OfSwitch id; at = at_s; among = inl refl } in
      at_x ∙ ap Some (sym (holds id.0 x at_x j c t at))
  position v len holds j c (OfLink i) at at_s = tt
  position v len holds j c (OfTap i) at at_s = tt
  position v len holds j c OfNothing at at_s = tt

  pub given_vector : suc (length cs) ≡ length steps → ((j c : ℕ) → slice_get cs j ≡ Some c → c < 2) →
      (v : List Bool) × IsVector d v × AreGiven steps b v cs
  given_vector count small =
      let (v, len, holds, some) = list_of IsChosen (length d.switches) chosen in (
        v,
        len,
        record {
          count = count;
          small = small;
          each = λ j c s at at_s. position v len holds j c s at at_s;
        },
      )
