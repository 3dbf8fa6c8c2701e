-- A layer of a product.
use Rattle.std.specs.Prelude.{◌≡◌, ℕ, suc, ◌⊎◌, ◌+◌, ◌/◌, ◌%◌, ◌<◌, ◌≤◌, List, ◌++◌, length, slice_get, slice_index, Some}
use Rattle.decision_graphs.specs.Label.{Layer}
use Rattle.graph_products.specs.declared.pair.Pair.{Pair}
use Rattle.graph_products.specs.declared.row.Row.{Row}
use Rattle.graph_products.specs.Products.{LeadsJointly, row_at}

-- All that the one list has stands in the other at its place.
abbrev pub Extends : {X : Type 0} → List X → List X → Type 0
Extends {X} old new = (i : ℕ) (x : X) → slice_get old i ≡ Some x → slice_get new i ≡ Some x

-- No pair stands twice.
abbrev pub NoneTwice : List Pair → Type 0
NoneTwice pairs = (a b : ℕ) (x : Pair) → slice_get pairs a ≡ Some x → slice_get pairs b ≡ Some x → a ≡ b

-- The pair has its place in the list, which has no other new pair.
pub record IsPlaced (old new : List Pair) (pair : Pair) (place : ℕ) : Type 0 where
  pub at : slice_get new place ≡ Some pair
  pub stays : Extends old new
  pub only : (b : ℕ) (x : Pair) → slice_get new b ≡ Some x → (slice_get old b ≡ Some x) ⊎ ((b ≡ place) × (x ≡ pair))
  pub none_twice : NoneTwice old → NoneTwice new
  pub grown : length new ≤ suc (length old)

-- Behind the edges stand as many as there are pairs here, each to its pair; the list has these pairs too, each once.
pub record AreAdded (old : List Pair) (edges : List ℕ) (pairs next : List Pair) (edges' : List ℕ) : Type 0 where
  pub to : List ℕ
  pub behind : edges' ≡ edges ++ to
  pub len : length to ≡ length pairs
  pub at : (c : ℕ) (x : Pair) → slice_get pairs c ≡ Some x → slice_get next (slice_index to c) ≡ Some x
  pub stays : Extends old next
  pub only : (b : ℕ) (x : Pair) → slice_get next b ≡ Some x → (slice_get old b ≡ Some x)
      ⊎ ((c : ℕ) × (slice_get pairs c ≡ Some x) × (slice_index to c ≡ b))
  pub none_twice : NoneTwice old → NoneTwice next
  pub grown : length next ≤ length old + length pairs

-- Behind the edges stand those of the pair x for the first n rows, each to the pair to which its row leads.
pub record AreLed (l m : Layer) (x : Pair) (rows : List Row) (n : ℕ) (old : List Pair) (edges : List ℕ)
    (next : List Pair) (edges' : List ℕ) : Type 0 where
  pub pairs : List Pair
  pub len : length pairs ≡ n
  pub each : (c : ℕ) (y : Pair) → slice_get pairs c ≡ Some y → LeadsJointly l m x (row_at rows c) y
  pub added : AreAdded old edges pairs next edges'

-- Each is a pair of a node of the first n and one of the first m.
abbrev pub AreStates : ℕ → ℕ → List Pair → Type 0
AreStates n m states = (t : ℕ) (x : Pair) → slice_get states t ≡ Some x → (x.first < n) × (x.second < m)

-- The first n edges, state by state, lead to the pairs to which the rows lead; the next layer has these alone, each
-- once.
pub record AreEdges (l m : Layer) (states : List Pair) (rows : List Row) (next : List Pair) (edges : List ℕ)
    (n : ℕ) : Type 0 where
  pub len : length edges ≡ n
  pub made : (p : ℕ) (x : Pair) → p < n → slice_get states (p / length rows) ≡ Some x →
      (y : Pair) × (slice_get next (slice_index edges p) ≡ Some y)
      × LeadsJointly l m x (row_at rows (p % length rows)) y
  pub none_twice : NoneTwice next
  pub hit : (b : ℕ) (y : Pair) → slice_get next b ≡ Some y → (p : ℕ) × (p < n) × (slice_index edges p ≡ b)
