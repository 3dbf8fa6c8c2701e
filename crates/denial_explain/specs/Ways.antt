-- Shortest ways from a node to nodes of a kind.
use Rattle.std.specs.Prelude.{◌≡◌, ℕ, ◌<◌, ◌≤◌, List, ◌∷◌, length, slice_get, Some}
use Rattle.station_graph.specs.Connection.{LeadsTo}

-- No node stands twice in the list.
abbrev pub Distinct : List ℕ → Type 0
Distinct nodes = (i j n : ℕ) → slice_get nodes i ≡ Some n → slice_get nodes j ≡ Some n → i ≡ j

-- Each node of the list is one of the first so many nodes.
abbrev pub AllBelow : ℕ → List ℕ → Type 0
AllBelow count nodes = (i n : ℕ) → slice_get nodes i ≡ Some n → n < count

-- The nodes are a shortest way from a: they begin with a, each two neighbours are related, no node
-- stands twice, the last one is an end, and no list that leads from a to an end is shorter.
pub record IsWay (R : ℕ → ℕ → Type 0) (Target : ℕ → Type 0) (a last : ℕ) (nodes : List ℕ) : Type 0 where
  pub after : List ℕ
  pub begins : nodes ≡ a ∷ after
  pub leads : LeadsTo R a after last
  pub ends : Target last
  pub distinct : Distinct nodes
  pub shortest : (other : List ℕ) (m : ℕ) → LeadsTo R a other m → Target m → length after ≤ length other
