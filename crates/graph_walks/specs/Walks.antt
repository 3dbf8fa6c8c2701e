-- Four graphs walked by the same choices.
use Rattle.std.specs.Prelude.{◌≡◌, ℕ, ◌<◌, ◌⊎◌, Bool, true, List, [], ◌∷◌, length, map, replicate, slice_get}
use Rattle.std.specs.Prelude.{slice_index_or, Some}
use Rattle.decision_graphs.specs.Label.{Layer, Layered, layer_at, label_of}
use Rattle.graph_products.specs.declared.pair.Pair.{Pair}
use Rattle.graph_products.specs.declared.row.Row.{Row}
use Rattle.graph_products.specs.Products.{no_pair, IsProductOf, IsWide, HasRoom}
use Rattle.graph_walks.specs.declared.codes.Codes.{Codes}

-- Both graphs take the same of two choices.
abbrev pub same_rows : List Row
same_rows = record { first = 0; second = 0 } ∷ record { first = 1; second = 1 } ∷ []

-- So at each of n steps.
abbrev pub same_steps : ℕ → List (List Row)
same_steps n = replicate n same_rows

-- There are n choices, each of them one of two.
pub record AreTwos (n : ℕ) (cs : List ℕ) : Type 0 where
  pub len : length cs ≡ n
  pub small : (j c : ℕ) → slice_get cs j ≡ Some c → c < 2

-- The graph has n layers of two choices.
pub record HasTwos (n : ℕ) (g : Layered) : Type 0 where
  pub count : length g.layers ≡ n
  pub choices : (j : ℕ) → j < n → (layer_at g.layers j).choices ≡ 2

-- The first choice is allowed, and the second where it is free.
abbrev pub set_for : Bool → List Bool
set_for free = true ∷ free ∷ []

-- The labels to which the choices lead.
abbrev pub codes_of : Layered → Layered → Layered → Layered → List ℕ → Codes
codes_of g h k l cs = record {
  first = label_of g cs;
  second = label_of h cs;
  third = label_of k cs;
  fourth = label_of l cs;
}

-- The labels of two pairs.
abbrev pub codes_in : Pair → Pair → Codes
codes_in x y = record { first = x.first; second = x.second; third = y.first; fourth = y.second }

-- The labels for which a label of the product of two products stands.
abbrev pub codes_at : List Pair → List Pair → Pair → Codes
codes_at one other x = codes_in (slice_index_or one x.first no_pair) (slice_index_or other x.second no_pair)

-- Both parts of the pair are places of the lists.
pub record IsInPlace (one other : List Pair) (x : Pair) : Type 0 where
  pub first : x.first < length one
  pub second : x.second < length other

-- The graph has n layers of two choices, and for each of its labels the labels to which the four graphs lead by the same
-- choices.
pub record IsWalkOf (g h k l : Layered) (n : ℕ) (walk : Layered) (codes : List Codes) : Type 0 where
  pub count : length walk.layers ≡ n
  pub choices : map (λ (x : Layer). x.choices) walk.layers ≡ replicate n 2
  pub labels : walk.labels ≡ length codes
  pub leads : (cs : List ℕ) → AreTwos n cs → slice_get codes (label_of walk cs) ≡ Some (codes_of g h k l cs)

-- The product of the first two and that of the last two together have more edges than these.
pub record AreTogetherWide (g h k l : Layered) (n budget : ℕ) : Type 0 where
  pub one : Layered
  pub other : Layered
  pub one_pairs : List Pair
  pub other_pairs : List Pair
  pub first : IsProductOf g h (same_steps n) one one_pairs
  pub second : IsProductOf k l (same_steps n) other other_pairs
  pub wide : IsWide one other (same_steps n) budget

-- One of the three products by which the four are walked has more edges than these.
abbrev pub IsWideWalk : Layered → Layered → Layered → Layered → ℕ → ℕ → Type 0
IsWideWalk g h k l n budget =
    IsWide g h (same_steps n) budget ⊎ (IsWide k l (same_steps n) budget ⊎ AreTogetherWide g h k l n budget)

-- None of the three products by which the four are walked has more edges than these.
pub record HasWalkRoom (g h k l : Layered) (n budget : ℕ) : Type 0 where
  pub one : Layered
  pub other : Layered
  pub one_pairs : List Pair
  pub other_pairs : List Pair
  pub first : IsProductOf g h (same_steps n) one one_pairs
  pub second : IsProductOf k l (same_steps n) other other_pairs
  pub first_room : HasRoom g h (same_steps n) budget
  pub second_room : HasRoom k l (same_steps n) budget
  pub room : HasRoom one other (same_steps n) budget
