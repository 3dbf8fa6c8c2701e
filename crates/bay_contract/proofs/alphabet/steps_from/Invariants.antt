use Rattle.std.proofs.Common.{◌≡◌, map}
use Rattle.std.specs.Prelude.{take}
use Rattle.bay_contract.specs.Courses.{shifted}
use Rattle.bay_contract.proofs.alphabet.steps_from.Given as goal

abbrev pub invariant-loop-i : goal.invariant-loop-i
invariant-loop-i l = l.steps.items ≡ map (shifted l.first) (take l.i l.forks)
