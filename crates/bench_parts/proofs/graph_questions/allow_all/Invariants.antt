use Rattle.decision_graphs.specs.Reaching.{AreSetsOf}
use Rattle.bench_parts.proofs.graph_questions.allow_all.Given as goal

abbrev pub invariant-loop-choice : goal.invariant-loop-choice
invariant-loop-choice l = AreSetsOf l.graph.layers l.sets
