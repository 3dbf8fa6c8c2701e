-- The pairs of a layer, and the seats that tell their places.
use Rattle.std.specs.Prelude.{◌≡◌, ℕ, ◌+◌, ◌*◌, ◌<◌, List, length, slice_get, slice_index, Some}
use Rattle.graph_products.specs.declared.pair.Pair.{Pair}
use Rattle.graph_products.specs.declared.pairs.Seating.{Seating}
use Rattle.graph_products.specs.declared.pairs.Seating.TheVariants.{Table, Hashed}

-- Pairs in order, whose first nodes are below the height and whose second ones are below the width.
pub record Pairs : Type 0 where
  pub height : ℕ
  pub width : ℕ
  pub keys : List Pair

-- The seat of a pair: there is a row of seats for each first node, and in it one for each second node.
abbrev pub seat_of : ℕ → Pair → ℕ
seat_of width x = x.first * width + x.second

-- The seat of each listed pair tells its place plus 1, and what a seat tells is the place of a pair of that seat.
pub record AreSeats (width : ℕ) (seats : List ℕ) (list : List Pair) : Type 0 where
  pub told : (p : ℕ) (x : Pair) → slice_get list p ≡ Some x →
      (x.second < width) × (slice_index seats (seat_of width x) ≡ p + 1)
  pub stands : (k p : ℕ) → slice_index seats k ≡ p + 1 →
      (x : Pair) × (slice_get list p ≡ Some x) × (seat_of width x ≡ k)

-- The pairs of the list.
abbrev pub listed_in : Seating → List Pair
listed_in (Table t) = t.list.items
listed_in (Hashed ids) = ids.keys

-- Where there are seats, there is one for each pair that may come, and they are right.
abbrev pub IsSeating : ℕ → ℕ → Seating → Type 0
IsSeating height width (Table t) =
    (length t.seats.items ≡ height * width) × AreSeats width t.seats.items t.list.items
IsSeating height width (Hashed ids) = Unit {0}
