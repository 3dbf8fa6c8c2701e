use Rattle.central_rules.proofs.KnownLemmas.{known_of}
use Rattle.central_rules.proofs.judge.words_by_known.Goals as goal

pub returns : goal.returns
returns g c = known_of (g.J.Judge.meaning c.args.judge.now) (g.met.J.Judge.lawful c.args.judge.now)
    c.diagram_is_station.ensures
