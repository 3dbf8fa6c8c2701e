-- A row of a fixed length, filled up behind what it holds, is known by what it holds.
use Rattle.std.proofs.Common.{◌≡◌, ◌≤◌, ◌-◌, ◌++◌, ◌∙◌, ℕ, List, length, take, drop, sym, ap, subst}
use Rattle.std.proofs.Math.ListN.{replicate}
use Rattle.std.proofs.lemmas.List.{take-append-drop, length-take-le}

-- The row has `size` entries and holds the first `count` of them, with the filler behind.
pub record IsFilled {X : Type 0} (filler : X) (size : ℕ) (row : List X) (count : ℕ) : Type 0 where
  pub size_is : length row ≡ size
  pub within : count ≤ size
  pub filled : drop count row ≡ replicate (size - count) filler

-- What it holds has so many entries.
pub held_count : {X : Type 0} (filler : X) (size : ℕ) (row : List X) (count : ℕ) → IsFilled filler size row count →
    length (take count row) ≡ count
held_count filler size row count f = length-take-le count row (subst (λ (k : ℕ). count ≤ k) (sym f.size_is) f.within)

-- Filled up again, what it holds is the row.
pub filled_again : {X : Type 0} (filler : X) (size : ℕ) (row : List X) (count : ℕ) → IsFilled filler size row count →
    take count row ++ replicate (size - length (take count row)) filler ≡ row
filled_again {X} filler size row count f =
    ap (λ (k : ℕ). take count row ++ replicate (size - k) filler) (held_count filler size row count f)
    ∙ ap (λ (t : List X). take count row ++ t) (sym f.filled)
    ∙ take-append-drop count row
