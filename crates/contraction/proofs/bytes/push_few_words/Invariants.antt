use Rattle.std.proofs.Common.{◌≡◌, ◌*◌, length, take}
use Rattle.contraction.specs.Rows.{words}
use Rattle.contraction.proofs.bytes.push_few_words.Given as goal

abbrev pub invariant-loop-i : goal.invariant-loop-i
invariant-loop-i l = (length l.bytes ≡ 64) × (take (2 * l.i) l.bytes ≡ words (take l.i l.row))
