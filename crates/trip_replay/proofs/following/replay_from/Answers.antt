use Rattle.trip_replay.proofs.TripReplaying.{trip_start_is_vector}
use Rattle.trip_replay.proofs.following.replay_from.Goals as goal

pub new-requires : goal.new-requires
new-requires g c = trip_start_is_vector c.args.station.now c.args.log.now c.args.start.now c.requires.start

pub returns-clause-replay : goal.returns-clause-replay
returns-clause-replay g c = c.replay_in.ensures.replay
