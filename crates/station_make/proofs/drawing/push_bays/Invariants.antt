use Rattle.std.proofs.Common.{◌≡◌, ◌++◌, take}
use Rattle.std.specs.List.{flat_map}
use Rattle.station_make.specs.DrawingText.{bay_text}
use Rattle.station_make.proofs.drawing.push_bays.Given as goal

abbrev pub invariant-loop-bay : goal.invariant-loop-bay
invariant-loop-bay l = l.text ≡ l.fn.text ++ flat_map bay_text (take l.bay-index l.bays)
