use Rattle.std.proofs.Common.{ℕ, ◌<◌}
use Rattle.commissioning_tests.specs.Covering.{TurnIsShown}
use Rattle.commissioning_tests.proofs.lists.turns_some.Given as goal

abbrev pub invariant-loop-k : goal.invariant-loop-k
invariant-loop-k l = (k : ℕ) → k < l.k → ¬ TurnIsShown l.positions k l.switch.0
