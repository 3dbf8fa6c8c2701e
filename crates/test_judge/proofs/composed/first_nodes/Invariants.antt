use Rattle.test_judge.proofs.FirstNodes.{AreFirst}
use Rattle.test_judge.proofs.composed.first_nodes.Given as goal

abbrev pub invariant-loop-i : goal.invariant-loop-i
invariant-loop-i l = AreFirst l.i l.list
