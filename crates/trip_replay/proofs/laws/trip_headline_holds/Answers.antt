use Rattle.trip_replay.proofs.TripAll.{trip_headline}
use Rattle.trip_replay.proofs.laws.trip_headline_holds.Goals as goal

pub returns : goal.returns
returns g c = λ start lines s run. trip_headline
    (g.J.Judge.meaning c.args.judge.now) start lines s c.diagram_is_station.ensures
    (g.met.J.Judge.lawful c.args.judge.now) run
