use Rattle.reservation_core.proofs.TrueWords.{obeys_first_two}
use Rattle.reservation_core.proofs.Soundness.{happens_sound}
use Rattle.reservation_core.proofs.laws.soundness_of_truth_is_kept.Goals as goal

pub returns : goal.returns
returns g c old new event outcome facts range happens sound =
    happens_sound (g.J.Judge.meaning c.args.judge.now) old new event outcome facts.rounds
    (obeys_first_two (g.J.Judge.meaning c.args.judge.now) old facts) range happens sound
