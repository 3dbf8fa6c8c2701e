use Rattle.station_graph.specs.Marking.{Marks}
use Rattle.station_state.specs.Marked.{ClosedUnder}
use Rattle.station_state.proofs.supply.mark_classes.Given as goal

abbrev pub invariant-loop-i : goal.invariant-loop-i
invariant-loop-i l = Marks (ClosedUnder l.station l.vector l.kind l.labels l.i) l.initial.marks l.marks
