use Rattle.std.proofs.Common.{arith}
use Rattle.commissioning_tests.proofs.StandLemmas.{all_leave}
use Rattle.commissioning_tests.proofs.stands.leaves_bay.Goals as goal

pub returns : goal.returns
returns c _ =
    all_leave c.args.table.now c.args.first.0 c.args.count
    (λ i lt. c.loop-i.invariant i (omega (arith, lt, c.loop-i-test.false)))
