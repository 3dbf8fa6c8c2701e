-- A value on other nodes.
use Rattle.std.specs.Prelude.{◌≡◌, ℕ, ◌<◌, List, map}
use Rattle.contraction.specs.Answers.{Answers}
use Rattle.contraction.specs.declared.row.Row.{Row}

-- The same rows on these nodes: the first of them stands in the place of the first kept node, and so on.
abbrev pub renamed : List ℕ → Answers → Answers
renamed nodes c = record {
  kept = nodes;
  coupled = c.coupled;
  joined = c.joined;
  bonded = c.bonded;
  energisable = c.energisable;
  earthable = c.earthable;
  fed = c.fed;
  loaded = c.loaded;
}

-- The map keeps the order of numbers.
abbrev pub KeepsOrder : (ℕ → ℕ) → Type 0
KeepsOrder f = (a b : ℕ) → a < b → f a < f b

-- The same rows, with each kept node mapped to another.
abbrev pub mapped : (ℕ → ℕ) → Answers → Answers
mapped f c = renamed (map f c.kept) c

-- Two rows have the same labels and marks.
pub record SameRow (x y : Row) : Type 0 where
  pub labels : x.labels ≡ y.labels
  pub first : x.first.items ≡ y.first.items
  pub second : x.second.items ≡ y.second.items
