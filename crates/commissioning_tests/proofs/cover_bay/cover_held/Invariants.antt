use Rattle.std.proofs.Common.{◌*◌}
use Rattle.commissioning_tests.specs.Answering.{ArePositions}
use Rattle.commissioning_tests.specs.Growing.{AreCovered}
use Rattle.commissioning_tests.proofs.cover_bay.cover_held.Given as goal

abbrev pub invariant-loop-i : goal.invariant-loop-i
invariant-loop-i l =
    ArePositions l.station l.operations l.found.positions.items
    × AreCovered l.station l.operations l.stands l.found.positions.items (2 * l.i)
