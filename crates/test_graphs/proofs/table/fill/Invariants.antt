use Rattle.std.proofs.Common.{◌≡◌, take, sum}
use Rattle.decision_graphs.specs.Drafting.{IsShaped}
use Rattle.test_graphs.proofs.table.fill.Given as goal

abbrev pub invariant-loop-layer : goal.invariant-loop-layer
invariant-loop-layer l = record {
  shaped : IsShaped l.builder l.labels l.choices l.nodes;
  first : l.first ≡ sum (take l.layer l.nodes);
}
