use Rattle.reservation_core.proofs.ForWorld.{are_kept}
use Rattle.reservation_core.proofs.laws.kept_words_are_true.Goals as goal

pub returns : goal.returns
returns g c = λ w facts. are_kept (g.J.Judge.meaning c.args.judge.now) w facts
