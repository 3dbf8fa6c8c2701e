use Rattle.std.proofs.Common.{ℕ, ◌⊎◌, ◌↔◌, length, replicate, true}
use Rattle.decision_graphs.specs.Reaching.{IsSet, RowLeads}
use Rattle.decision_graphs.proofs.reach.spread_row.Given as goal

abbrev pub invariant-loop-to : goal.invariant-loop-to
invariant-loop-to l = (i : ℕ) → IsSet l.seen i
    ↔ (IsSet l.fn.seen i ⊎ RowLeads l.to-index l.row (replicate (length l.row) true) l.next i)
