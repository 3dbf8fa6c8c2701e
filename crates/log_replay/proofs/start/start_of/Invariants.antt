use Rattle.log_replay.proofs.StartLemmas.{TellsSoFar}
use Rattle.log_replay.proofs.start.start_of.Given as goal

abbrev pub invariant-loop-i : goal.invariant-loop-i
invariant-loop-i l = TellsSoFar l.station l.log l.start l.i
