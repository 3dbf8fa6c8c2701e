use Rattle.reservation_core.proofs.Plain.{keeps_facts}
use Rattle.reservation_core.proofs.laws.facts_are_kept.Goals as goal

pub returns : goal.returns
returns g c old new event outcome facts range happens =
    keeps_facts (g.J.Judge.meaning c.args.judge.now) old new event outcome c.diagram_is_station.ensures
    (g.met.J.Judge.lawful c.args.judge.now) facts range happens
