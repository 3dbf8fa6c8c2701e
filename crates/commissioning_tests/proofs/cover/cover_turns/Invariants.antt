use Rattle.std.proofs.Common.{◌≡◌, ℕ, ◌<◌, slice_get, Some}
use Rattle.ilk_base.specs.declared.words.Op.{Op}
use Rattle.release_dependence.specs.Depends.{DependsOn}
use Rattle.commissioning_tests.specs.Standing.{IsMoved}
use Rattle.commissioning_tests.specs.Covering.{TurnIsShown}
use Rattle.commissioning_tests.specs.Growing.{AreMore}
use Rattle.commissioning_tests.proofs.cover.cover_turns.Given as goal

abbrev pub invariant-loop-s : goal.invariant-loop-s
invariant-loop-s l =
    AreMore l.walked.station.now l.walked.operations.now l.initial.found.positions.items l.found.positions.items
    × ((s : ℕ) (op : Op) → s < l.s → slice_get l.walked.operations.now l.walked.number ≡ Some op →
    IsMoved l.walked.stands.now s → DependsOn l.walked.station.now op s → TurnIsShown l.found.positions.items l.walked.number s)
