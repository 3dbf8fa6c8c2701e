use Rattle.decision_graphs.specs.Reaching.{AreSetsOf}
use Rattle.test_judge.proofs.reached.sets_of.Given as goal

abbrev pub invariant-loop-layer : goal.invariant-loop-layer
invariant-loop-layer l = AreSetsOf l.graph.layers l.sets
