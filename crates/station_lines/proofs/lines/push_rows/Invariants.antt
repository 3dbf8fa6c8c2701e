use Rattle.std.proofs.Common.{◌≡◌, ◌++◌}
use Rattle.std.specs.List.{flat_map, range_with_len}
use Rattle.station_lines.specs.Rows.{text_of}
use Rattle.station_lines.specs.Lines.{rows_at}
use Rattle.station_lines.proofs.lines.push_rows.Given as goal

abbrev pub invariant-loop-i : goal.invariant-loop-i
invariant-loop-i l = l.text ≡ l.initial.text ++ text_of (flat_map (rows_at l.whole) (range_with_len 0 l.i))
