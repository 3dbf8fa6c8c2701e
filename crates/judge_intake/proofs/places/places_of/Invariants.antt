use Rattle.std.proofs.Common.{◌≡◌, map, take}
use Rattle.judge_pool.specs.Places.{node_listed}
use Rattle.judge_intake.proofs.places.places_of.Given as goal

abbrev pub invariant-loop-k : goal.invariant-loop-k
invariant-loop-k l = map (node_listed l.list) l.places ≡ take l.k l.nodes
