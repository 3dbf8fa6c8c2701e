use Rattle.std.proofs.Common.{◌≡◌, take, map}
use Rattle.station_joints.specs.Chosen.{closed_at}
use Rattle.dependence_search.proofs.position.position_of.Given as goal

abbrev pub invariant-loop-i : goal.invariant-loop-i
invariant-loop-i l = l.closed.items ≡ map (closed_at l.moved l.choices) (take l.i l.steps.old_places.items)
