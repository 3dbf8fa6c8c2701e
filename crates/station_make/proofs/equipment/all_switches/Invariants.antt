use Rattle.std.proofs.Common.{◌≡◌, take}
use Rattle.std.specs.List.{flat_map}
use Rattle.station_make.specs.Layout.{switches_of}
use Rattle.station_make.proofs.equipment.all_switches.Given as goal

abbrev pub invariant-loop-bay : goal.invariant-loop-bay
invariant-loop-bay l = l.all.items ≡ flat_map switches_of (take l.bay-index l.bays)
