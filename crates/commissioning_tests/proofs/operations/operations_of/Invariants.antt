use Rattle.std.proofs.Common.{◌≡◌}
use Rattle.commissioning_tests.specs.Listed.{operations_from}
use Rattle.commissioning_tests.proofs.operations.operations_of.Given as goal

abbrev pub invariant-loop-i : goal.invariant-loop-i
invariant-loop-i l = l.operations.items ≡ operations_from l.first.0 l.i
