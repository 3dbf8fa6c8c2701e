-- The class of a node, by labels.
use Rattle.std.specs.Prelude.{◌≡◌, ◌<◌, ◌↔◌, ℕ, List, length, slice_index, Contains}
use Rattle.station_graph.specs.Nodes.{Rises}

-- The nodes are those with the label of this node, rising.
pub record IsClassOf (labels : List ℕ) (node : ℕ) (nodes : List ℕ) : Type 0 where
  pub exact : (n : ℕ) → Contains nodes n ↔ ((n < length labels) × (slice_index labels n ≡ slice_index labels node))
  pub rises : Rises nodes
