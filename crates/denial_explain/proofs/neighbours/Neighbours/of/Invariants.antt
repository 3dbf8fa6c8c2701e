use Rattle.std.proofs.Common.{false, length}
use Rattle.station_graph.specs.Diagram.{node_count}
use Rattle.station_graph.proofs.PartialEdges.{TouchingBelow}
use Rattle.denial_explain.specs.Listing.{AreLists}
use Rattle.denial_explain.proofs.neighbours.Neighbours.of.Given as goal

abbrev pub invariant-switches : goal.invariant-switches
invariant-switches l =
    AreLists (TouchingBelow false l.station l.joining l.i 0) (node_count l.station) l.neighbours

abbrev pub invariant-links : goal.invariant-links
invariant-links l =
    AreLists (TouchingBelow false l.station l.joining (length l.station.switches) l.i) (node_count l.station)
    l.neighbours
