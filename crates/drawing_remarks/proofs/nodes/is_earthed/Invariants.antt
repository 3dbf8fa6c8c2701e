use Rattle.std.proofs.Common.{◌≡◌, take}
use Rattle.std.specs.List.{list_any}
use Rattle.drawing_remarks.specs.Station.{is_earthed_by}
use Rattle.drawing_remarks.proofs.nodes.is_earthed.Given as goal

abbrev pub invariant-loop-i : goal.invariant-loop-i
invariant-loop-i l = l.found ≡ list_any (is_earthed_by l.node) (take l.i l.station.switches)
