use Rattle.trip_core.proofs.Starting.{trip_starts}
use Rattle.trip_core.proofs.laws.trip_facts_hold_at_the_start.Goals as goal

pub returns : goal.returns
returns g c = λ start s is. trip_starts (g.J.Judge.meaning c.args.judge.now) start s is
