use Rattle.std.proofs.Common.{arith}
use Rattle.commissioning_tests.proofs.ListLemmas.{same_list}
use Rattle.commissioning_tests.proofs.answers.vector_of.Goals as goal

pub returns : goal.returns
returns c =
    same_list c.loop-i.vector c.args.closed.now c.loop-i.invariant.0
    (λ j lt. c.loop-i.invariant.1 j (omega (arith, lt, c.loop-i.invariant.0, c.requires, c.loop-i-test.false)))
