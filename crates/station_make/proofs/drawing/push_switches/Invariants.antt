use Rattle.std.proofs.Common.{◌≡◌, ◌++◌, take}
use Rattle.std.specs.List.{flat_map}
use Rattle.station_make.specs.DrawingText.{switch_line}
use Rattle.station_make.proofs.drawing.push_switches.Given as goal

abbrev pub invariant-loop-switch : goal.invariant-loop-switch
invariant-loop-switch l = l.text ≡ l.fn.text ++ flat_map switch_line (take l.switch-index l.switches)
