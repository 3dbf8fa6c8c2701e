use Rattle.std.proofs.Common.{take}
use Rattle.judge_pool.specs.Needing.{IsNeededOuter}
use Rattle.judge_intake.proofs.NodesLemmas.{NodesAmong}
use Rattle.judge_intake.proofs.needed.outer_nodes.Given as goal

abbrev pub invariant-loop-k : goal.invariant-loop-k
invariant-loop-k l = NodesAmong (IsNeededOuter l.station l.bay.0 l.place) (take l.k l.sharing.all) l.nodes
