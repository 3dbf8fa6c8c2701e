use Rattle.log_replay.proofs.All.{run_headline}
use Rattle.log_replay.proofs.laws.headline_holds.Goals as goal

pub returns : goal.returns
returns g c start lines w run = run_headline (g.J.Judge.meaning c.args.judge.now) start lines w
    c.diagram_is_station.ensures (g.met.J.Judge.lawful c.args.judge.now) run
