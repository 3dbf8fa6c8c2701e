use Rattle.std.proofs.Common.{map, take}
use Rattle.judge_pool.specs.Needing.{IsNeededInner}
use Rattle.judge_pool.specs.Places.{node_listed}
use Rattle.judge_intake.proofs.NodesLemmas.{NodesAmong}
use Rattle.judge_intake.proofs.needed.inner_places.Given as goal

abbrev pub invariant-loop-k : goal.invariant-loop-k
invariant-loop-k l =
    NodesAmong (IsNeededInner l.station l.moved l.first l.others l.from) (take l.k l.list)
    (map (node_listed l.list) l.places)
