use Rattle.std.proofs.Common.{◌≡◌, length}
use Rattle.bay_contract.specs.Courses.{AreTurns}
use Rattle.bay_contract.proofs.course.turns_of.Given as goal

abbrev pub invariant-loop-j : goal.invariant-loop-j
invariant-loop-j l = (length l.turns.items ≡ l.j) × AreTurns l.station l.part.0 l.first l.turns.items
