use Rattle.std.proofs.Common.{◌≡◌, ◌≤◌, take}
use Rattle.std.specs.List.{count_by}
use Rattle.drawing_remarks.specs.Station.{link_ends}
use Rattle.drawing_remarks.proofs.nodes.links_ending.Given as goal

abbrev pub invariant-loop-i : goal.invariant-loop-i
invariant-loop-i l = record {
  count : l.count ≡ count_by (link_ends l.node) (take l.i l.station.links);
  few : l.count ≤ l.i;
}
