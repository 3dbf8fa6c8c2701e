-- The sizes that a graph can have.
use Rattle.std.specs.Prelude.{◌≡◌, ℕ, ◌<◌, ◌≤◌, List, length, slice_index, sum}
use Rattle.decision_graphs.specs.declared.limits.TheConstants.{LAYERS, GRAPH_NODES}

-- One label at least, and in each layer one choice and one node at least; the counts of layers and nodes are within a
-- builder's limits.
pub record AreSizes (labels : ℕ) (choices nodes : List ℕ) : Type 0 where
  pub any_label : 0 < labels
  pub same : length choices ≡ length nodes
  pub layers : length nodes ≤ LAYERS
  pub filled : (j : ℕ) → j < length nodes → 0 < slice_index nodes j
  pub chosen : (j : ℕ) → j < length nodes → 0 < slice_index choices j
  pub total : sum nodes ≤ GRAPH_NODES
