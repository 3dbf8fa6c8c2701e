use Rattle.trip_replay.proofs.OneTripOutcome.{trip_log_not_refused}
use Rattle.trip_replay.proofs.laws.trip_log_is_not_refused.Goals as goal

pub returns : goal.returns
returns c = λ bytes events refusal. trip_log_not_refused c.args.station.now bytes events refusal c.is_station.ensures
