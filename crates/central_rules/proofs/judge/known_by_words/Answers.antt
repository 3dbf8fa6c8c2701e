use Rattle.central_rules.proofs.MeaningLemmas.{reading_of}
use Rattle.central_rules.proofs.judge.known_by_words.Goals as goal

pub returns : goal.returns
returns g c = reading_of (g.J.Judge.meaning c.args.judge.now) (g.met.J.Judge.lawful c.args.judge.now)
