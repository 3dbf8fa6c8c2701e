use Rattle.reservation_core.proofs.Keeping.{happens_keeps}
use Rattle.reservation_core.proofs.laws.round_facts_are_kept.Goals as goal

pub returns : goal.returns
returns g c old new event outcome facts range happens =
    happens_keeps (g.J.Judge.meaning c.args.judge.now) c.diagram_is_station.ensures old new outcome facts event
    range happens
