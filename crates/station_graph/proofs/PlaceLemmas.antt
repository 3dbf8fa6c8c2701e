-- The place of a switch among those of its part.
use Rattle.std.proofs.Common.{◌≡◌, ◌↔◌, ◌+◌, ◌-◌, ◌<◌, ◌≤◌, ℕ, zero, suc, Bool, true, eqb, List, [], ◌∷◌, length, take}
use Rattle.std.proofs.Common.{slice_get, Some, refl, inl, inr, arith}
use Rattle.std.specs.Prelude.{count_by}
use Rattle.std.proofs.lemmas.Bool.{cases_Bool, cases_eq, eq-eqb, ne_eqb}
use Rattle.std.proofs.lemmas.Option.{slice_get_within}
use Rattle.station_graph.specs.declared.items.Switch.{Switch}
use Rattle.station_graph.specs.Diagram.{Diagram, AreSwitchesOf, place_in}
use Rattle.station_graph.specs.Connection.{a_switch}
use Rattle.station_graph.specs.Sharing.{OfPart}
use Rattle.station_graph.proofs.CountLemmas.{count_by-cons, counted_yes, counted_no}

-- a test that passes below i exactly from a place on passes as often as there are places between
count_before : {X : Type 0} (p : X → Bool) (xs : List X) (first i : ℕ) → first ≤ i → i ≤ length xs →
    ((j : ℕ) (x : X) → slice_get xs j ≡ Some x → j < i → (p x ≡ true) ↔ (first ≤ j)) →
    count_by p (take i xs) ≡ i - first
count_before p [] first zero le within h = omega arith
count_before p (x ∷ xs) first zero le within h = omega arith
count_before p [] first (suc i) le within h = absurd (omega (arith, within))
count_before p (x ∷ xs) zero (suc i) le within h =
    let more = count_by-cons p x (take i xs) in
    let here = counted_yes (p x) ((h 0 x refl (omega arith)).1 (omega arith)) in
    let rest = count_before p xs 0 i (omega arith) (omega (arith, within))
    (λ j y at lt. (λ e. omega arith, λ w. (h (suc j) y at (omega (arith, lt))).1 (omega arith))) in
    omega arith
count_before p (x ∷ xs) (suc first) (suc i) le within h =
    let more = count_by-cons p x (take i xs) in
    let here = counted_no (p x)
    (elim (cases_Bool (p x)) [
      | inl passes ↦ absurd (omega (arith, (h 0 x refl (omega arith)).0 passes))
      | inr fails ↦ fails
    ]) in
    let rest = count_before p xs first i (omega (arith, le)) (omega (arith, within)) (λ j y at lt. (
      λ e. omega (arith, (h (suc j) y at (omega (arith, lt))).0 e),
      λ w. (h (suc j) y at (omega (arith, lt))).1 (omega (arith, w)),
    )) in
    omega arith

eqb_true : (a b : ℕ) → eqb a b ≡ true → a ≡ b
eqb_true a b e = elim (cases_eq a b) [ inl same ↦ same | inr ne ↦ let no = ne_eqb a b ne in absurd (cc) ]

-- a switch of the bay stands among its switches, and its place is how far it is from the first of them
pub record Placed (d : Diagram) (b first count i : ℕ) : Type 0 where
  pub from : first ≤ i
  pub below : i < first + count
  pub place : place_in d b i ≡ i - first

pub placed : (d : Diagram) (b first count i : ℕ) → AreSwitchesOf d b first count → OfPart d b (a_switch i) →
    Placed d b first count i
placed d b first count i h (x, at, of_b) =
    let w = (h.those i x at).0 of_b in
    record {
      from = w.0;
      below = w.1;
      place = count_before (λ (y : Switch). eqb y.bay.0 b) d.switches first i w.0
          (omega (arith, slice_get_within d.switches i x at)) (λ j y at_j lt. (
            λ e. ((h.those j y at_j).0 (eqb_true y.bay.0 b e)).0,
            λ le. eq-eqb y.bay.0 b ((h.those j y at_j).1 (le, omega (arith, lt, w.1))),
          ));
    }
