use Rattle.std.proofs.Common.{◌≡◌, length}
use Rattle.test_station.proofs.rules.positions.Given as goal

abbrev pub invariant-loop-i : goal.invariant-loop-i
invariant-loop-i l = length l.vector ≡ length l.station.switches
