use Rattle.std.proofs.Common.{ℕ, ◌⊎◌, ◌↔◌, replicate, true}
use Rattle.decision_graphs.specs.LaidOut.{lists_in}
use Rattle.decision_graphs.specs.Reaching.{IsSet, NodesLead}
use Rattle.decision_graphs.specs.Shapes.{shape_at}
use Rattle.decision_graphs.proofs.reach.spread_rows.Given as goal

abbrev pub invariant-loop-node : goal.invariant-loop-node
invariant-loop-node l = (i : ℕ) → IsSet l.seen i ↔ (IsSet l.fn.seen i
    ⊎ NodesLead l.node (shape_at (lists_in l.graph) l.layer) (lists_in l.graph).edges
    (replicate (shape_at (lists_in l.graph) l.layer).choices true) l.fn.seen i)
