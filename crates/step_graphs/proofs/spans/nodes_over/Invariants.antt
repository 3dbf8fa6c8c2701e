use Rattle.judge_intake.proofs.NodesLemmas.{NodesBelow}
use Rattle.step_graphs.specs.Needing.{SpannedAt}
use Rattle.step_graphs.proofs.spans.nodes_over.Given as goal

abbrev pub invariant-loop-k : goal.invariant-loop-k
invariant-loop-k l = NodesBelow (SpannedAt l.spans l.j) l.k l.nodes
