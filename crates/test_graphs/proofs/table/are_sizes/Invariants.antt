use Rattle.std.proofs.Common.{◌≡◌, ℕ, ◌<◌, slice_index, take, sum}
use Rattle.test_graphs.proofs.table.are_sizes.Given as goal

abbrev pub invariant-loop-layer : goal.invariant-loop-layer
invariant-loop-layer l = record {
  filled : (j : ℕ) → j < l.layer → 0 < slice_index l.nodes j;
  chosen : (j : ℕ) → j < l.layer → 0 < slice_index l.choices j;
  total : l.total ≡ sum (take l.layer l.nodes);
}
