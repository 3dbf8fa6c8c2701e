use Rattle.station_work.proofs.Counting.{SoFar}
use Rattle.station_work.proofs.tally.tally_operations.Given as goal

abbrev pub invariant-loop-i : goal.invariant-loop-i
invariant-loop-i g l = SoFar l.sight l.station l.readings l.i l.tally
