use Rattle.std.proofs.Common.{◌≡◌, ◌≤◌, take}
use Rattle.std.specs.List.{count_by}
use Rattle.drawing_remarks.specs.Station.{is_of_kind}
use Rattle.drawing_remarks.proofs.nodes.of_kind.Given as goal

abbrev pub invariant-loop-i : goal.invariant-loop-i
invariant-loop-i l = record {
  count : l.count ≡ count_by (is_of_kind l.kind) (take l.i l.station.switches);
  few : l.count ≤ l.i;
}
