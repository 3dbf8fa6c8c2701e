use Rattle.std.proofs.Common.{◌≡◌, ◌≤◌, ◌++◌, ◌*◌, length}
use Rattle.std.specs.List.{flat_map, range_with_len}
use Rattle.station_lines.specs.Rows.{text_of}
use Rattle.drawing_remarks.specs.Labels.{is_said}
use Rattle.drawing_remarks.specs.Station.{node_number}
use Rattle.drawing_remarks.specs.StationText.{remark_rows_at}
use Rattle.drawing_remarks.proofs.remarks.push_remarks.Given as goal

abbrev pub invariant-loop-i : goal.invariant-loop-i
invariant-loop-i l = record {
  few : l.count ≤ 13 * l.i;
  node : l.node ≡ node_number l.facts.whole.now l.i;
  nodes : l.node ≤ l.i;
  count : l.count ≡ length (flat_map (remark_rows_at l.facts.whole.now (is_said l.facts.whole.now l.facts.station.now
      l.facts.linked l.facts.joined)) (range_with_len 0 l.i));
  text : l.text ≡ l.initial.text ++ text_of (flat_map (remark_rows_at l.facts.whole.now
      (is_said l.facts.whole.now l.facts.station.now l.facts.linked l.facts.joined)) (range_with_len 0 l.i));
}
