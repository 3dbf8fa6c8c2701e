use Rattle.std.proofs.Common.{◌≡◌, ◌++◌, take}
use Rattle.contraction.specs.Rows.{words}
use Rattle.contraction.proofs.bytes.push_many_words.Given as goal

abbrev pub invariant-loop-number : goal.invariant-loop-number
invariant-loop-number l = l.text ≡ l.initial.text ++ words (take l.number-index l.row)
