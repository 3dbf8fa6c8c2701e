use Rattle.std.proofs.Common.{ℕ, List, length, map, sym, subst, ◌∙◌}
use Rattle.std.specs.List.{range_with_len}
use Rattle.std.proofs.lemmas.Option.{slice_get_within}
use Rattle.ilk_base.specs.declared.words.Op.{Op}
use Rattle.commissioning_tests.specs.declared.values.TestPosition.{TestPosition}
use Rattle.commissioning_tests.specs.Listed.{AreThose}
use Rattle.commissioning_tests.specs.Covering.{IsAlways, IsNeeded}
use Rattle.commissioning_tests.specs.Answering.{ArePositions}
use Rattle.commissioning_tests.specs.Growing.{AreCovered}
use Rattle.judge_pool.proofs.ErrorLemmas.{passed_on}
use Rattle.commissioning_tests.proofs.ListedLemmas.{turns_for}
use Rattle.commissioning_tests.proofs.bay.tests_of.Goals as goal

pub returns-clause-tests : goal.returns-clause-tests
returns-clause-tests c =
    let d = c.args.station.now in
    let ops : List Op = c.in_ok-operations.operations.items in
    let stands : List ℕ = c.in_ok-stands.stands.items in
    let ps : List TestPosition = c.in_ok-positions.positions.items in
    let are : ArePositions d ops ps =
    subst (λ (l : List Op). ArePositions d l ps) c.deref.ensures.value c.in_ok-positions.ensures.positions in
    let covered_by : AreCovered d ops c.deref-2.result.now ps (length ops) =
    subst (λ (l : List Op). AreCovered d l c.deref-2.result.now ps (length l)) c.deref.ensures.value
    c.in_ok-positions.ensures.covered in
    let covered : AreCovered d ops stands ps (length ops) =
    subst (λ (l : List ℕ). AreCovered d ops l ps (length ops)) c.deref-2.ensures.value covered_by in
    record {
      operations = c.in_ok-operations.ensures;
      always =
          subst (λ (l : List Op). AreThose (IsAlways d) l c.in_ok-always.always.items) c.deref-3.ensures.value
          c.in_ok-always.ensures;
      needs =
          subst (λ (l : List Op). AreThose (IsNeeded d l c.args.first.0 c.args.count)
          (range_with_len 0 (length d.switches)) (map (λ s. s.0) c.in_ok-needs.needs.items)) c.deref-6.ensures.value
          c.in_ok-needs.ensures;
      positions = are;
      turns =
          turns_for d ops stands ps c.args.first.0 c.args.count are covered c.in_ok-operations.ensures
          c.in_ok-stands.ensures;
      rules = λ k op rule v at vector breaks. (covered k (slice_get_within ops k op at)).rules rule v op at vector breaks;
    }

pub returns-in_err-positions-clause-wide : goal.returns-in_err-positions-clause-wide
returns-in_err-positions-clause-wide c =
    passed_on _ _ c.from_residual-in_err-positions.result c.from_residual-in_err-positions.ensures.1
    (λ trouble same is. c.in_err-positions.ensures.wide (sym same ∙ is))
