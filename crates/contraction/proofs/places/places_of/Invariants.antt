use Rattle.contraction.specs.Restricting.{PlacesBelow}
use Rattle.contraction.proofs.places.places_of.Given as goal

abbrev pub invariant-loop-place : goal.invariant-loop-place
invariant-loop-place l = PlacesBelow l.nodes l.kept l.place l.places.items
