use Rattle.station_work.proofs.Counting.{BaysSoFar}
use Rattle.station_work.proofs.text.bay_count.Given as goal

abbrev pub invariant-loop-i : goal.invariant-loop-i
invariant-loop-i l = BaysSoFar l.station l.i l.count
