use Rattle.std.proofs.Common.{ℕ, ◌<◌}
use Rattle.decision_graphs.specs.Reaching.{IsSet}
use Rattle.release_compile.proofs.own_words.says_some.Given as goal

abbrev pub invariant-loop-label : goal.invariant-loop-label
invariant-loop-label l = (k : ℕ) → 0 < k → k < l.label → IsSet l.marks.labels k → ⊥
