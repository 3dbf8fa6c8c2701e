-- The nodes that the parts of a station share, as lists.
use Rattle.std.specs.Prelude.{◌≡◌, ℕ, ◌<◌, ◌≤◌, ◌↔◌, List, length, slice_get, Some, Contains}
use Rattle.station_graph.specs.Diagram.{Diagram, part_count}
use Rattle.station_graph.specs.Sharing.{IsShared}
use Rattle.judge_intake.specs.declared.needed.Sharing.{Sharing}
use Rattle.judge_pool.specs.Graphs.{other_of}

-- For each part the list of the nodes that it shares.
pub record AreShared (d : Diagram) (shared : List (List ℕ)) : Type 0 where
  pub count : length shared ≡ part_count d
  pub each : (part : ℕ) (nodes : List ℕ) → slice_get shared part ≡ Some nodes → (n : ℕ) → Contains nodes n ↔
      IsShared d part n

-- Some part shares the node.
abbrev pub IsSharedBySome : Diagram → ℕ → Type 0
IsSharedBySome d n = (part : ℕ) × IsShared d part n

-- The lists are those of the nodes that each part shares, and of the nodes that some part shares.
pub record IsSharing (d : Diagram) (s : Sharing) : Type 0 where
  pub parts : AreShared d s.parts.items
  pub all : (n : ℕ) → Contains s.all n ↔ IsSharedBySome d n

-- One of the other parts between two places has the node in its list.
pub record SharesFrom (shared : List (List ℕ)) (b from to n : ℕ) : Type 0 where
  pub place : ℕ
  pub nodes : List ℕ
  pub after : from ≤ place
  pub before : place < to
  pub listed : slice_get shared (other_of 0 b place) ≡ Some nodes
  pub has : Contains nodes n
