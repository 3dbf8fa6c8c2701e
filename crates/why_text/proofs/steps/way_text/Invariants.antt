use Rattle.std.proofs.Common.{List, ℕ}
use Rattle.why_text.specs.WhyLines.{AreSteps}
use Rattle.why_text.proofs.steps.way_text.Given as goal

abbrev pub invariant-loop-i : goal.invariant-loop-i
invariant-loop-i l = (lines : List (List ℕ)) × AreSteps l.i l.station l.vector l.counted l.nodes lines l.text
