use Rattle.station_graph.specs.Marking.{Marks, SwitchesAt}
use Rattle.station_graph.proofs.marks.mark_switches.Given as goal

abbrev pub invariant-loop-i : goal.invariant-loop-i
invariant-loop-i l =
    Marks (SwitchesAt l.inside l.part.0 l.station l.i) l.initial.marks l.marks
