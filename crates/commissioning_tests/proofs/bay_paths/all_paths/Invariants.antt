use Rattle.std.proofs.Common.{◌≡◌, length}
use Rattle.dependence_search.specs.RuleWalks.{AreRuleStocks}
use Rattle.commissioning_tests.specs.Held.{AreHeld}
use Rattle.commissioning_tests.specs.Refusing.{AllAreNarrow}
use Rattle.commissioning_tests.proofs.bay_paths.all_paths.Given as goal

abbrev pub invariant-loop-i : goal.invariant-loop-i
invariant-loop-i l =
    AreRuleStocks l.station l.steps.old_steps.items l.stocks × (length l.all.items ≡ l.i)
    × AreHeld l.station l.steps.old_steps.items l.first.0 l.all.items
    × AllAreNarrow l.station l.steps.old_steps.items l.first.0 (length l.all.items) l.limit
