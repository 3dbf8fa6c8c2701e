use Rattle.std.proofs.Common.{◌≡◌, ◌+◌, ◌-◌, ◌<◌, ◌≤◌, ◌++◌, ◌∷◌, [], ℕ, List, length}
use Rattle.decision_graphs.specs.Drafting.{IsShaped, IsBare, node_count}
use Rattle.test_graphs.proofs.table.add_nodes.Given as goal

abbrev pub invariant-loop-made : goal.invariant-loop-made
invariant-loop-made l = record {
  layer : 0 < length l.builder.layers;
  within : l.made ≤ l.count;
  counted : node_count l.builder ≡ node_count l.initial.builder + l.made;
  shaped : (labels : ℕ) (cs ns : List ℕ) → IsShaped l.initial.builder labels cs (ns ++ 0 ∷ []) →
      IsShaped l.builder labels cs (ns ++ l.made ∷ []);
  bare : IsBare l.initial.builder → IsBare l.builder;
}

abbrev pub decreases-loop-made : goal.decreases-loop-made
decreases-loop-made l = l.count - l.made
