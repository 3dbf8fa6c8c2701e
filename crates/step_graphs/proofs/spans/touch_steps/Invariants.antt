use Rattle.station_graph.specs.Diagram.{node_count}
use Rattle.step_graphs.specs.Touching.{AreSpansUpto}
use Rattle.step_graphs.proofs.spans.touch_steps.Given as goal

abbrev pub invariant-loop-i : goal.invariant-loop-i
invariant-loop-i l =
    AreSpansUpto l.station l.steps l.moved l.others l.i l.spans.items (node_count l.station)
