use Rattle.station_graph.specs.Diagram.{node_count}
use Rattle.std.proofs.Common.{length}
use Rattle.station_graph.proofs.ClassesLemmas.{KeepsLabels}
use Rattle.station_graph.proofs.PartialEdges.{TouchingBelow}
use Rattle.central_rules.proofs.labelling.labels.Given as goal

abbrev pub invariant-switches : goal.invariant-switches
invariant-switches l =
    KeepsLabels (TouchingBelow l.bonds_only l.station l.vector l.i 0) (node_count l.station) l.classes

abbrev pub invariant-links : goal.invariant-links
invariant-links l =
    KeepsLabels (TouchingBelow l.bonds_only l.station l.vector (length l.station.switches) l.i)
    (node_count l.station) l.classes
