use Rattle.std.proofs.Common.{ℕ, ◌<◌}
use Rattle.decision_graphs.specs.Reaching.{IsSet}
use Rattle.dependence_search.proofs.label.wanted_label.Given as goal

abbrev pub invariant-loop-t : goal.invariant-loop-t
invariant-loop-t l = (t : ℕ) → t < l.t → IsSet l.wanted t → ¬ IsSet l.marks.labels t
