use Rattle.std.proofs.Common.{arith}
use Rattle.decision_graphs.proofs.SetLemmas.{length-AreSetsOf}
use Rattle.test_graphs.proofs.SizesLemmas.{length-set_at-AreSetsOf}
use Rattle.test_graphs.proofs.questions.allow_one.Goals as goal

pub allow-requires-clause-layer : goal.allow-requires-clause-layer
allow-requires-clause-layer c = omega (arith, length-AreSetsOf c.args.graph.now.layers c.args.sets.now c.requires)

pub allow-requires-clause-choice : goal.allow-requires-clause-choice
allow-requires-clause-choice c = omega (
  arith,
  length-set_at-AreSetsOf c.args.graph.now.layers c.args.sets.now
      c.args.layer c.requires,
)
