use Rattle.judge_pool.specs.Needing.{BayNeeds}
use Rattle.judge_intake.proofs.NodesLemmas.{NodesBelow}
use Rattle.judge_intake.proofs.needed.bay_nodes.Given as goal

abbrev pub invariant-loop-node : goal.invariant-loop-node
invariant-loop-node l = NodesBelow (BayNeeds l.station l.bay.0 l.first l.count) l.node l.nodes
