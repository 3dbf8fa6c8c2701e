use Rattle.log_replay.proofs.Premises.{premise_exact}
use Rattle.log_replay.proofs.laws.premises_are_exact.Goals as goal

pub returns : goal.returns
returns g c start before old new event outcome run range happens = premise_exact (g.J.Judge.meaning c.args.judge.now)
    start before old new event outcome c.diagram_is_station.ensures (g.met.J.Judge.lawful c.args.judge.now) run
    range happens
