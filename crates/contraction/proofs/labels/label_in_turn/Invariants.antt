use Rattle.std.proofs.Common.{length}
use Rattle.station_graph.proofs.ClassesLemmas.{KeepsLabels}
use Rattle.contraction.specs.Merging.{EdgeOf}
use Rattle.contraction.proofs.AloneLemmas.{AreAloneFrom}
use Rattle.contraction.proofs.labels.label_in_turn.Given as goal

abbrev pub invariant-firsts : goal.invariant-firsts
invariant-firsts l =
    (KeepsLabels (EdgeOf l.first l.first_labels l.i l.second l.second_labels 0) (length l.fn.labels) l.labels)
    × AreAloneFrom l.first l.i l.labels

abbrev pub invariant-seconds : goal.invariant-seconds
invariant-seconds l =
    KeepsLabels (EdgeOf l.first l.first_labels (length l.first) l.second l.second_labels l.j) (length l.fn.labels)
    l.labels
