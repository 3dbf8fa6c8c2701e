use Rattle.std.proofs.Common.{◌≡◌, ◌≤◌, take}
use Rattle.std.specs.List.{count_by}
use Rattle.station_graph.specs.declared.items.Link.{Link}
use Rattle.std.specs.Prelude.{not}
use Rattle.drawing_remarks.proofs.nodes.links_in.Given as goal

abbrev pub invariant-loop-i : goal.invariant-loop-i
invariant-loop-i l = record {
  count : l.count ≡ count_by (λ (x : Link). not x.bond) (take l.i l.station.links);
  few : l.count ≤ l.i;
}
