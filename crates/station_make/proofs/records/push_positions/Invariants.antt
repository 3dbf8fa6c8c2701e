use Rattle.std.proofs.Common.{◌≡◌, ◌++◌, take, map}
use Rattle.station_make.specs.PositionsText.{lines_text, position_record}
use Rattle.station_make.proofs.records.push_positions.Given as goal

abbrev pub invariant-loop-switch : goal.invariant-loop-switch
invariant-loop-switch l =
    l.text ≡ l.fn.text ++ lines_text (map (λ s. l.front ++ position_record s) (take l.switch-index l.switches))
