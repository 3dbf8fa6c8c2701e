use Rattle.std.proofs.Common.{◌≡◌, drop}
use Rattle.structured_text.specs.Spelling.{has_slash}
use Rattle.structured_text.proofs.readable.slash_from.Given as goal

abbrev pub invariant-loop-i : goal.invariant-loop-i
invariant-loop-i l = has_slash (drop l.i l.path) ≡ has_slash (drop l.fn.start l.path)
