use Rattle.central_rules.proofs.KnownLemmas.{holds_same}
use Rattle.central_rules.proofs.judge.holds_by_summaries.Goals as goal

pub returns : goal.returns
returns g c = holds_same (g.J.Judge.meaning c.args.judge.now) (g.met.J.Judge.lawful c.args.judge.now)
    c.diagram_is_station.ensures
