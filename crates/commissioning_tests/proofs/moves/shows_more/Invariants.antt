use Rattle.std.proofs.Common.{ℕ, ◌<◌}
use Rattle.commissioning_tests.specs.Answering.{TurnsAt}
use Rattle.commissioning_tests.specs.Covering.{TurnIsShown}
use Rattle.commissioning_tests.proofs.moves.shows_more.Given as goal

abbrev pub invariant-loop-k : goal.invariant-loop-k
invariant-loop-k l = (k : ℕ) → k < l.k → TurnsAt k l.answers l.others → TurnIsShown l.found.positions.items k l.switch.0
