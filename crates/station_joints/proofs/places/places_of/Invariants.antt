use Rattle.std.proofs.Common.{◌≡◌, length}
use Rattle.station_joints.specs.Taking.{ArePlaced}
use Rattle.station_joints.proofs.places.places_of.Given as goal

abbrev pub invariant-loop-p : goal.invariant-loop-p
invariant-loop-p l = record {
  long : length l.places.items ≡ length l.station.switches;
  placed : ArePlaced l.steps l.p l.places.items;
}
