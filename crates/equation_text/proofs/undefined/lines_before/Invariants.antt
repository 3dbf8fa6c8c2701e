use Rattle.std.proofs.Common.{length}
use Rattle.equation_text.proofs.LinesBefore.{PassedSoFar}
use Rattle.equation_text.proofs.undefined.lines_before.Given as goal

abbrev pub invariant-loop-line : goal.invariant-loop-line
invariant-loop-line l = PassedSoFar l.text l.left l.count

abbrev pub decreases-loop-line : goal.decreases-loop-line
decreases-loop-line l = length l.left
