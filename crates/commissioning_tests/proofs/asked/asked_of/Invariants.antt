use Rattle.std.proofs.Common.{◌≡◌, ◌<◌, length, Some}
use Rattle.ilk_base.specs.declared.words.SwitchId.{SwitchId}
use Rattle.decision_graphs.specs.Reaching.{IsSet}
use Rattle.commissioning_tests.proofs.asked.asked_of.Given as goal

abbrev pub invariant-loop-s : goal.invariant-loop-s
invariant-loop-s l =
    (length l.asked.items ≡ l.s)
    × ((id : SwitchId) → l.kept ≡ Some id → id.0 < l.s → IsSet l.asked.items id.0)
