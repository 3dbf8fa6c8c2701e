use Rattle.std.proofs.Common.{◌≡◌, ◌++◌, take}
use Rattle.contraction.specs.Rows.{flags}
use Rattle.contraction.proofs.bytes.push_many_flags.Given as goal

abbrev pub invariant-loop-bit : goal.invariant-loop-bit
invariant-loop-bit l = l.text ≡ l.initial.text ++ flags (take l.bit-index l.row)
