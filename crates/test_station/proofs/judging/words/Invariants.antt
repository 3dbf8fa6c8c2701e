use Rattle.std.proofs.Common.{◌≡◌, length}
use Rattle.test_station.proofs.judging.words.Given as goal

abbrev pub invariant-loop-i : goal.invariant-loop-i
invariant-loop-i l = length l.readings ≡ length l.station.switches
