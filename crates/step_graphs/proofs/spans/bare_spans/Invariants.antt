use Rattle.step_graphs.specs.Touching.{AreSpansUpto}
use Rattle.step_graphs.proofs.spans.bare_spans.Given as goal

abbrev pub invariant-loop-node : goal.invariant-loop-node
invariant-loop-node l = AreSpansUpto l.station l.steps l.moved l.others 0 l.list.items l.node
