use Rattle.std.proofs.Common.{◌≡◌, length}
use Rattle.station_graph.specs.Diagram.{part_count}
use Rattle.central_rules.specs.Meaning.{HeardFit, bay_of}
use Rattle.central_rules.specs.WordRows.{by_rows}
use Rattle.test_station.proofs.judging.hear.Given as goal

abbrev pub invariant-loop-i : goal.invariant-loop-i
invariant-loop-i l = record {
  count : length l.heard ≡ part_count l.station;
  fits : HeardFit (by_rows l.station) (bay_of l.station l.fn.id.0) l.heard;
}
