use Rattle.std.proofs.Common.{arith}
use Rattle.like_bays.proofs.LikeLemmas.{all_back}
use Rattle.like_bays.proofs.check.leads_back.Goals as goal

pub returns : goal.returns
returns c _ =
    all_back c.args.table.now (λ n lt. c.loop-n.invariant n (omega (arith, lt, c.loop-n-test.false, c.loop-n.auto.n-end)))
