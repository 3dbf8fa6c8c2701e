use Rattle.trip_replay.proofs.TripReplaying.{TripReplaying}
use Rattle.trip_replay.proofs.following.replay_in.Given as goal

abbrev pub invariant-loop-i : goal.invariant-loop-i
invariant-loop-i g l = TripReplaying (g.J.Judge.meaning l.judge) l.log l.outcomes.items l.world l.i
