use Rattle.std.proofs.Common.{◌*◌}
use Rattle.dependence_search.specs.RuleWalks.{AreRuleStocks}
use Rattle.commissioning_tests.specs.Answering.{ArePositions}
use Rattle.commissioning_tests.specs.Growing.{AreCovered}
use Rattle.commissioning_tests.specs.Refusing.{AllAreNarrow}
use Rattle.commissioning_tests.proofs.cover_bay.cover_each.Given as goal

abbrev pub invariant-loop-i : goal.invariant-loop-i
invariant-loop-i l =
    AreRuleStocks l.station l.steps.old_steps.items l.stocks × ArePositions l.station l.operations l.found.positions.items
    × AreCovered l.station l.operations l.stands l.found.positions.items (2 * l.i)
    × AllAreNarrow l.station l.steps.old_steps.items l.first.0 l.i l.limit
