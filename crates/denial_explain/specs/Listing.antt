-- Lists of neighbours, one for each node.
use Rattle.std.specs.Prelude.{◌≡◌, ◌↔◌, ℕ, ◌<◌, List, [], ◌∷◌, ◌++◌, length, slice_index_or, slice_set, Contains}

-- The list at a node; it is empty past the last node.
abbrev pub list_at : List (List ℕ) → ℕ → List ℕ
list_at lists a = slice_index_or lists a []

-- The node b stands in the list at a.
abbrev pub Listed : List (List ℕ) → ℕ → ℕ → Type 0
Listed lists a b = Contains (list_at lists a) b

-- The lists with b at the end of the list at a.
abbrev pub with_neighbour : List (List ℕ) → ℕ → ℕ → List (List ℕ)
with_neighbour lists a b = slice_set lists a (list_at lists a ++ b ∷ [])

-- The lists with a and b as neighbours of each other.
abbrev pub with_neighbours : List (List ℕ) → ℕ → ℕ → List (List ℕ)
with_neighbours lists a b = with_neighbour (with_neighbour lists a b) b a

-- There is a list for each node, with exactly the nodes to which the relation leads.
pub record AreLists (R : ℕ → ℕ → Type 0) (count : ℕ) (lists : List (List ℕ)) : Type 0 where
  pub len : length lists ≡ count
  pub exact : (a b : ℕ) → Listed lists a b ↔ R a b

-- Only nodes are listed, and each node at those that are listed at it.
pub record IsUndirected (lists : List (List ℕ)) : Type 0 where
  pub within : (a b : ℕ) → Listed lists a b → b < length lists
  pub back : (a b : ℕ) → Listed lists a b → Listed lists b a
