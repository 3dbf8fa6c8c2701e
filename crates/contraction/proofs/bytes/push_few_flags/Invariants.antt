use Rattle.std.proofs.Common.{◌≡◌, length, take}
use Rattle.contraction.specs.Rows.{flags}
use Rattle.contraction.proofs.bytes.push_few_flags.Given as goal

abbrev pub invariant-loop-i : goal.invariant-loop-i
invariant-loop-i l = (length l.bytes ≡ 32) × (take l.i l.bytes ≡ flags (take l.i l.row))
