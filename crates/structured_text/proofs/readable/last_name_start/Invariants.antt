use Rattle.std.proofs.Common.{◌≡◌, drop}
use Rattle.structured_text.specs.Spelling.{last_name}
use Rattle.structured_text.proofs.readable.last_name_start.Given as goal

abbrev pub invariant-loop-i : goal.invariant-loop-i
invariant-loop-i l = last_name (drop l.i l.path) ≡ last_name l.path
