use Rattle.decision_graphs.specs.Drafting.{IsShaped, choices_of, sizes_of}
use Rattle.test_graphs.proofs.table.fill_row.Given as goal

abbrev pub invariant-loop-choice : goal.invariant-loop-choice
invariant-loop-choice l = IsShaped l.builder l.initial.builder.labels (choices_of l.initial.builder)
    (sizes_of l.initial.builder)
