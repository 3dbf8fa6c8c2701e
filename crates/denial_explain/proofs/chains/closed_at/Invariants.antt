use Rattle.std.proofs.Common.{◌≤◌}
use Rattle.station_graph.specs.Supply.{ClosedAt}
use Rattle.denial_explain.proofs.chains.closed_at.Given as goal

abbrev pub invariant-loop-i : goal.invariant-loop-i
invariant-loop-i l = (at : ClosedAt l.station l.vector l.kind l.node.0) → l.i ≤ at.number
