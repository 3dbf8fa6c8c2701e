-- What stands in the class of a node, by labels.
use Rattle.std.specs.Prelude.{◌≡◌, ℕ, Bool, List, slice_index}
use Rattle.ilk_base.specs.declared.words.Kind.{Kind}
use Rattle.station_graph.specs.Diagram.{Diagram, HasTap}
use Rattle.station_graph.specs.Supply.{ClosedAt}

-- A closed switch of the kind stands at a node with the label of this node.
abbrev pub ClosedInClass : Diagram → List Bool → Kind → List ℕ → ℕ → Type 0
ClosedInClass d v kind labels n = (m : ℕ) × (slice_index labels n ≡ slice_index labels m) × ClosedAt d v kind m

-- A node with the label of this node has a tap.
abbrev pub TapInClass : Diagram → List ℕ → ℕ → Type 0
TapInClass d labels n = (m : ℕ) × (slice_index labels n ≡ slice_index labels m) × HasTap d m
