use Rattle.std.proofs.Common.{◌≡◌, take}
use Rattle.station_names.proofs.names.switch_names.Given as goal

abbrev pub invariant-loop-i : goal.invariant-loop-i
invariant-loop-i l = l.names.items ≡ take l.i l.station.switch_paths
