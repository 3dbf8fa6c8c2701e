use Rattle.std.proofs.Common.{◌≡◌}
use Rattle.station_make.specs.Layout.{bays}
use Rattle.station_make.proofs.equipment.bays.Given as goal

abbrev pub invariant-loop-i : goal.invariant-loop-i
invariant-loop-i l = l.all.items ≡ bays l.i
