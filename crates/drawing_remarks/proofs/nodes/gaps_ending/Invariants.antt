use Rattle.std.proofs.Common.{◌≡◌, ◌≤◌, take}
use Rattle.std.specs.List.{count_by}
use Rattle.drawing_remarks.specs.Station.{gap_ends}
use Rattle.drawing_remarks.proofs.nodes.gaps_ending.Given as goal

abbrev pub invariant-loop-i : goal.invariant-loop-i
invariant-loop-i l = record {
  count : l.count ≡ count_by (gap_ends l.node) (take l.i l.station.switches);
  few : l.count ≤ l.i;
}
