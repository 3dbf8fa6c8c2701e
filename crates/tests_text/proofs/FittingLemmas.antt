-- Tests of a bay fit its station.
use Rattle.std.proofs.Common.{◌≡◌, ℕ, zero, suc, ◌+◌, ◌<◌, ◌≤◌, List, [], ◌∷◌, length, map, get_or, Some, All, inl, inr}
use Rattle.std.proofs.Common.{arith}
use Rattle.std.specs.Prelude.{slice_get}
use Rattle.std.specs.List.{range_with_len}
use Rattle.std.proofs.lemmas.Option.{slice_get-get_or}
use Rattle.std.proofs.lemmas.List.Elements.{All-nil, All-cons, All-head, All-tail, All-same}
use Rattle.ilk_base.specs.declared.words.Op.{Op}
use Rattle.ilk_base.specs.declared.words.BayId.{BayId}
use Rattle.ilk_base.specs.declared.words.SwitchId.{SwitchId}
use Rattle.station_graph.specs.Diagram.{Diagram, part_count}
use Rattle.station_graph.specs.CentralRules.{IsOperation}
use Rattle.commissioning_tests.specs.declared.values.TestPosition.{TestPosition}
use Rattle.commissioning_tests.specs.declared.values.BayTests.{BayTests}
use Rattle.commissioning_tests.specs.declared.values.SharedTests.{SharedTests}
use Rattle.release_dependence.specs.Operations.{opening, closing}
use Rattle.commissioning_tests.specs.Listed.{operations_from, AreThose}
use Rattle.commissioning_tests.specs.Answering.{IsPosition}
use Rattle.commissioning_tests.specs.Covering.{IsAlways, IsNeeded, AreTestsOf}
use Rattle.commissioning_tests.specs.Shared.{AreSharedTests, AreStationTests, AreTestsUpto, IsLater, IsTested}
use Rattle.tests_text.specs.Fitting.{MoveFits, PositionFits, SharedFit, TestsFit}

-- what holds at each place holds of all
at_each_place : {X : Type 0} (P : X → Type 0) (xs : List X) →
    ((i : ℕ) (x : X) → slice_get xs i ≡ Some x → P x) → All P xs
at_each_place P xs h k d within = h k _ (slice_get-get_or xs k d within)

-- what holds of all holds of those that are chosen
chosen_are : {X : Type 0} (P Q : X → Type 0) (xs chosen : List X) → AreThose P xs chosen → All Q xs → All Q chosen
chosen_are P Q [] chosen are all = All-same Q chosen [] are (All-nil Q)
chosen_are P Q (x ∷ xs) chosen are all = elim are [
  | inl w ↦
      All-same Q chosen (x ∷ w.0) w.1 (All-cons Q x w.0 (All-head Q x xs all)
      (chosen_are P Q xs w.0 w.3 (All-tail Q x xs all)))
  | inr w ↦ chosen_are P Q xs chosen w.1 (All-tail Q x xs all)
]

-- what holds of each key
keys_are : {X : Type 0} (Q : ℕ → Type 0) (key : X → ℕ) (xs : List X) → All Q (map key xs) → All (λ x. Q (key x)) xs
keys_are Q key [] all = All-nil (λ x. Q (key x))
keys_are Q key (x ∷ xs) all =
    All-cons (λ y. Q (key y)) x xs (All-head Q (key x) (map key xs) all)
    (keys_are Q key xs (All-tail Q (key x) (map key xs) all))

numbers_below : (first count n : ℕ) → first + count ≤ n → All (λ s. s < n) (range_with_len first count)
numbers_below first zero n within = All-nil (λ s. s < n)
numbers_below first (suc count) n within =
    All-cons (λ s. s < n) first (range_with_len (first + 1) count) (omega arith)
    (numbers_below (first + 1) count n (omega arith))

operations_fit : (d : Diagram) (first count : ℕ) → first + count ≤ length d.switches →
    All (IsOperation d) (operations_from first count)
operations_fit d first zero within = All-nil (IsOperation d)
operations_fit d first (suc n) within =
    let here : first < length d.switches = omega arith in
    All-cons (IsOperation d) (opening first) (closing first ∷ operations_from (suc first) n) here
    (All-cons (IsOperation d) (closing first) (operations_from (suc first) n) here
    (operations_fit d (suc first) n (omega arith)))

position_fits : (d : Diagram) (ops : List Op) (p : TestPosition) → IsPosition d ops p → PositionFits d ops p
position_fits d ops p is = record {
  vector = is.vector;
  answers = is.answers.len;
  moves = at_each_place (MoveFits d ops) p.moves.items (λ j m at. let move = is.moves j m at in
      record { switch = move.within; answers = move.answers_are.len });
}

pub tests_of_fit : (d : Diagram) (bay : ℕ) (t : BayTests) → AreTestsOf d bay t → TestsFit d t
tests_of_fit d bay t are =
    let operations : All (IsOperation d) t.operations.items =
    All-same (IsOperation d) t.operations.items (operations_from are.first are.count) are.tests.operations
    (operations_fit d are.first are.count are.switches.within) in
    let n = length d.switches in
    record {
      operations = operations;
      always = chosen_are (IsAlways d) (IsOperation d) t.operations.items t.always.items are.tests.always operations;
      needs = keys_are (λ s. s < n) (λ (s : SwitchId). s.0) t.needs.items
          (chosen_are (IsNeeded d t.operations.items are.first are.count) (λ s. s < n) (range_with_len 0 n)
          (map (λ (s : SwitchId). s.0) t.needs.items) are.tests.needs (numbers_below 0 n n (omega arith)));
      positions = at_each_place (PositionFits d t.operations.items) t.positions.items
          (λ i p at. position_fits d t.operations.items p (are.tests.positions i p at));
    }

-- ---- the tests of a station

shared_fits : (d : Diagram) (leads : List ℕ) (s : SharedTests) → s.bay.0 < part_count d → AreSharedTests d leads s →
    SharedFit d s
shared_fits d leads s within are =
    let n = part_count d in
    record {
      bay = within;
      like = keys_are (λ b. b < n) (λ (b : BayId). b.0) s.like.items
          (chosen_are (IsLater d leads s.bay.0) (λ b. b < n) (range_with_len 0 n) (map (λ (b : BayId). b.0) s.like.items)
          are.like (numbers_below 0 n n (omega arith)));
      tests = tests_of_fit d s.bay.0 s.tests are.tests;
    }

bays_within : (d : Diagram) (leads : List ℕ) (all : List SharedTests) → AreTestsUpto d leads (part_count d) all →
    All (λ (s : SharedTests). s.bay.0 < part_count d) all
bays_within d leads all are =
    let n = part_count d in
    keys_are (λ b. b < n) (λ (s : SharedTests). s.bay.0) all
    (chosen_are (IsTested d leads) (λ b. b < n) (range_with_len 0 n) (map (λ (s : SharedTests). s.bay.0) all) are.bays
    (numbers_below 0 n n (omega arith)))

pub station_fits : (d : Diagram) (all : List SharedTests) → AreStationTests d all → All (SharedFit d) all
station_fits d all are k s within =
    shared_fits d are.leads (get_or all k s) (bays_within d are.leads all are.tests k s within)
    (are.tests.each k (get_or all k s) (slice_get-get_or all k s within))
