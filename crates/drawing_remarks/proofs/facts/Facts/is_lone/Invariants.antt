use Rattle.std.proofs.Common.{◌≡◌, take}
use Rattle.std.specs.List.{list_any}
use Rattle.drawing_remarks.specs.Labels.{gap_labelled}
use Rattle.drawing_remarks.proofs.facts.Facts.is_lone.Given as goal

abbrev pub invariant-loop-i : goal.invariant-loop-i
invariant-loop-i l = l.found ≡ list_any (gap_labelled l.self.linked l.label) (take l.i l.self.station.now.switches)
