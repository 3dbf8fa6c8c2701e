use Rattle.std.proofs.Common.{◌≡◌, map, take}
use Rattle.judge_pool.specs.Places.{node_listed}
use Rattle.judge_intake.proofs.places.nodes_at.Given as goal

abbrev pub invariant-loop-k : goal.invariant-loop-k
invariant-loop-k l = l.nodes ≡ map (node_listed l.list) (take l.k l.places)
