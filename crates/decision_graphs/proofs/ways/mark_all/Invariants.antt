use Rattle.std.proofs.Common.{ℕ, ◌⊎◌, ◌↔◌}
use Rattle.decision_graphs.specs.Reaching.{IsSet}
use Rattle.decision_graphs.specs.Ways.{IsOneOf}
use Rattle.decision_graphs.proofs.ways.mark_all.Given as goal

abbrev pub invariant-loop-to : goal.invariant-loop-to
invariant-loop-to l = (i : ℕ) → IsSet l.seen i ↔ (IsSet l.fn.seen i ⊎ IsOneOf l.to l.next i)
