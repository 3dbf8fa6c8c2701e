use Rattle.std.proofs.Common.{◌≡◌, length}
use Rattle.test_judge.proofs.words.readings_of.Given as goal

abbrev pub invariant-loop-i : goal.invariant-loop-i
invariant-loop-i l = length l.readings ≡ 10
