use Rattle.std.proofs.Common.{◌≡◌, ◌++◌, map}
use Rattle.std.specs.List.{range_with_len}
use Rattle.station_make.specs.PositionsText.{lines_text}
use Rattle.station_make.specs.EventsText.{deliver_record}
use Rattle.station_make.proofs.records.push_delivers.Given as goal

abbrev pub invariant-loop-i : goal.invariant-loop-i
invariant-loop-i l = l.text ≡ l.fn.text ++ lines_text (map deliver_record (range_with_len l.first l.i))
