-- The nodes that are kept before each layer of a graph.
use Rattle.std.specs.Prelude.{ℕ, zero, suc, ◌+◌, ◌<◌, ◌≤◌, ◌⊎◌}
use Rattle.station_graph.specs.Diagram.{Diagram}
use Rattle.station_graph.specs.Connection.{a_switch}
use Rattle.station_graph.specs.Sharing.{OfPart, Touches, TouchedBy, IsShared}
use Rattle.contraction.specs.Stands.{Among}
use Rattle.judge_pool.specs.Graphs.{other_of}
use Rattle.judge_pool.specs.Listing.{part_items, parts_before}

-- The node is touched by one of the first j other parts, and by the bay or one of the other parts from j on.
pub record IsNeededOuter (d : Diagram) (b j n : ℕ) : Type 0 where
  pub before : TouchedBy (Among (parts_before d b j)) d n
  pub after : TouchedBy (OfPart d b) d n ⊎ ((i : ℕ) × (j ≤ i) × TouchedBy (Among (part_items d (other_of 0 b i))) d n)

-- One of the bay's other switches from the j-th on touches the node.
abbrev pub TouchesOther : Diagram → ℕ → ℕ → ℕ → ℕ → ℕ → Type 0
TouchesOther d m first others j n = (i : ℕ) × (j ≤ i) × (i < others) × Touches d (a_switch (other_of first m i)) n

-- The switch m touches the node, or one of the bay's other switches from the j-th on does.
abbrev pub IsNeededInner : Diagram → ℕ → ℕ → ℕ → ℕ → ℕ → Type 0
IsNeededInner d m first others j n = Touches d (a_switch m) n ⊎ TouchesOther d m first others j n

-- What an inner graph of switch m keeps before layer j: before the first what the bay shares or its switches touch.
abbrev pub InnerNeeds : Diagram → ℕ → ℕ → ℕ → ℕ → ℕ → ℕ → Type 0
InnerNeeds d b m first others zero n = IsShared d b n ⊎ IsNeededInner d m first others 0 n
InnerNeeds d b m first others (suc j) n = IsNeededInner d m first others j n

-- One of the bay's switches, so many from the first on, touches the node.
abbrev pub TouchesOwn : Diagram → ℕ → ℕ → ℕ → Type 0
TouchesOwn d first count n = (i : ℕ) × (i < count) × Touches d (a_switch (first + i)) n

-- The bay shares the node, or one of its switches touches it.
abbrev pub BayNeeds : Diagram → ℕ → ℕ → ℕ → ℕ → Type 0
BayNeeds d b first count n = IsShared d b n ⊎ TouchesOwn d first count n
