use Rattle.std.proofs.Common.{arith}
use Rattle.like_bays.proofs.LikeLemmas.{all_left}
use Rattle.like_bays.proofs.check.leaves.Goals as goal

pub returns : goal.returns
returns c _ =
    all_left c.args.table.now c.args.first.0 c.args.second.0 c.args.count
    (λ s lt. c.loop-s.invariant s (omega (arith, lt, c.loop-s-test.false, c.loop-s.auto.s-end)))
