use Rattle.std.proofs.Common.{arith}
use Rattle.why_text.proofs.Ends.{closed_within}
use Rattle.why_text.proofs.between.first_closed.Goals as goal

pub returns-clause-none : goal.returns-clause-none
returns-clause-none c = λ j at.
    c.loop-i.invariant j
    (omega (arith, closed_within c.args.station.now c.args.vector.now j c.args.a.0 c.args.b.0 at)) at
