use Rattle.std.proofs.Common.{take}
use Rattle.decision_graphs.specs.Drafting.{IsShaped, IsBare}
use Rattle.test_graphs.proofs.table.bare.Given as goal

abbrev pub invariant-loop-layer : goal.invariant-loop-layer
invariant-loop-layer l = record {
  shaped : IsShaped l.builder l.labels (take l.layer l.choices) (take l.layer l.nodes);
  bare : IsBare l.builder;
}
