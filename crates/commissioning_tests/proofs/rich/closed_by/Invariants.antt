use Rattle.std.proofs.Common.{◌≡◌, length}
use Rattle.commissioning_tests.proofs.rich.closed_by.Given as goal

abbrev pub invariant-loop-s : goal.invariant-loop-s
invariant-loop-s l = length l.list.items ≡ l.s
