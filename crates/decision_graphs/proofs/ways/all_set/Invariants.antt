use Rattle.std.proofs.Common.{ℕ, ◌+◌, ◌<◌}
use Rattle.decision_graphs.specs.Reaching.{IsSet}
use Rattle.decision_graphs.proofs.ways.all_set.Given as goal

abbrev pub invariant-loop-k : goal.invariant-loop-k
invariant-loop-k l = (i : ℕ) → i < l.k → IsSet l.marks (l.from + i)
