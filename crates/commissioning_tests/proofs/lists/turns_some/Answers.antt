use Rattle.std.proofs.Common.{arith}
use Rattle.commissioning_tests.proofs.lists.turns_some.Goals as goal

pub returns-clause-none : goal.returns-clause-none
returns-clause-none c _ k lt t = c.loop-k.invariant k (omega (arith, lt, c.loop-k-test.false)) t
