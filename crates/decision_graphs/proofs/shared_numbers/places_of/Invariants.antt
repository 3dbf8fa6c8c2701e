use Rattle.decision_graphs.specs.Placed.{ArePlaces}
use Rattle.decision_graphs.proofs.shared_numbers.places_of.Given as goal

abbrev pub invariant-loop-place : goal.invariant-loop-place
invariant-loop-place l = ArePlaces l.numbers l.places.items
