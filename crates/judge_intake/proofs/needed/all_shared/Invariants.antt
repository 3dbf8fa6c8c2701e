use Rattle.judge_intake.specs.SharedNodes.{IsSharedBySome}
use Rattle.judge_intake.proofs.NodesLemmas.{NodesBelow}
use Rattle.judge_intake.proofs.needed.all_shared.Given as goal

abbrev pub invariant-loop-node : goal.invariant-loop-node
invariant-loop-node l = NodesBelow (IsSharedBySome l.station) l.node l.nodes
