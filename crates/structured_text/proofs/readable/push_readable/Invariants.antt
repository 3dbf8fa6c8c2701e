use Rattle.std.proofs.Common.{◌≡◌, ◌++◌, drop, true}
use Rattle.structured_text.specs.Spelling.{readable}
use Rattle.structured_text.proofs.readable.push_readable.Given as goal

abbrev pub invariant-loop-i : goal.invariant-loop-i
invariant-loop-i l = l.text ++ readable l.gap (drop l.i l.path) ≡ l.fn.text ++ readable true (drop l.fn.start l.path)
