use Rattle.std.proofs.Common.{◌≤◌, length}
use Rattle.program_text.proofs.bay_masks.bays_above.Given as goal

abbrev pub invariant-loop-number : goal.invariant-loop-number
invariant-loop-number l = l.number ≤ length l.lines

abbrev pub decreases-loop-number : goal.decreases-loop-number
decreases-loop-number l = l.number
