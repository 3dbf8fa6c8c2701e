use Rattle.std.proofs.Common.{◌≡◌, take}
use Rattle.judge_pool.proofs.keeps.list_from.Given as goal

abbrev pub invariant-loop-number : goal.invariant-loop-number
invariant-loop-number l = l.list ≡ take l.number-index l.numbers
