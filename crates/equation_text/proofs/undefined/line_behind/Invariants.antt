use Rattle.std.proofs.Common.{◌≡◌, suc, take}
use Rattle.equation_text.specs.Faults.{feeds}
use Rattle.equation_text.proofs.undefined.line_behind.Given as goal

abbrev pub invariant-loop-byte : goal.invariant-loop-byte
invariant-loop-byte l = l.line ≡ suc (feeds (take l.byte-index l.lines))
