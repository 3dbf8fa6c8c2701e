use Rattle.std.proofs.Common.{List, ℕ}
use Rattle.whatever_text.specs.Whatever.{AreWhateverLines}
use Rattle.whatever_text.proofs.lines.whatever_text.Given as goal

abbrev pub invariant-loop-i : goal.invariant-loop-i
invariant-loop-i g l = (lines : List (List ℕ)) × AreWhateverLines l.i l.station l.readings l.op lines l.text
