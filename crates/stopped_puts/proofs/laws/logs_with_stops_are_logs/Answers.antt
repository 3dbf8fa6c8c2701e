use Rattle.stopped_puts.proofs.Restarting.{is_run}
use Rattle.stopped_puts.proofs.laws.logs_with_stops_are_logs.Goals as goal

pub returns-clause-run : goal.returns-clause-run
returns-clause-run g c = λ start lines w run.
    is_run (g.J.Judge.meaning c.args.judge.now) c.stop_is_restart.ensures start lines w c.diagram_is_station.ensures
    (g.met.J.Judge.lawful c.args.judge.now) run

pub returns-clause-headline : goal.returns-clause-headline
returns-clause-headline g c = λ start lines w run.
    c.headline_holds.ensures start lines w
    (is_run (g.J.Judge.meaning c.args.judge.now) c.stop_is_restart.ensures start lines w c.diagram_is_station.ensures
    (g.met.J.Judge.lawful c.args.judge.now) run)
