use Rattle.decision_graphs.specs.Drafting.{IsShaped, choices_of, sizes_of}
use Rattle.test_graphs.proofs.table.fill_layer.Given as goal

abbrev pub invariant-loop-node : goal.invariant-loop-node
invariant-loop-node l = IsShaped l.builder l.initial.builder.labels (choices_of l.initial.builder)
    (sizes_of l.initial.builder)
