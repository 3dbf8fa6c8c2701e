use Rattle.std.proofs.Common.{◌≡◌, length}
use Rattle.test_judge.proofs.alphabets.put_all.Given as goal

abbrev pub invariant-loop-i : goal.invariant-loop-i
invariant-loop-i l = length l.vector ≡ length l.fn.vector
