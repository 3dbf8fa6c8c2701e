use Rattle.station_graph.proofs.MarkLemmas.{Gathers}
use Rattle.station_graph.proofs.marks.marked_twice.Given as goal

abbrev pub invariant-loop-i : goal.invariant-loop-i
invariant-loop-i l = Gathers l.here l.elsewhere l.i l.nodes
