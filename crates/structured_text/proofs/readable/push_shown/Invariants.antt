use Rattle.std.proofs.Common.{◌≡◌, ◌++◌, drop}
use Rattle.structured_text.specs.Spelling.{shown, shown_from}
use Rattle.structured_text.proofs.readable.push_shown.Given as goal

abbrev pub invariant-loop-i : goal.invariant-loop-i
invariant-loop-i l = l.text ++ shown_from l.count (drop l.i l.path) ≡ l.fn.text ++ shown l.path
