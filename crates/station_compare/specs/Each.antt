-- Lists with an entry for each place.
use Rattle.std.specs.Prelude.{◌≡◌, ℕ, List, length, slice_get, Some}

-- The list has n entries, and each is so of its place.
pub record AreEach {X : Type 0} (Is : ℕ → X → Type 0) (n : ℕ) (xs : List X) : Type 0 where
  pub count : length xs ≡ n
  pub each : (k : ℕ) (x : X) → slice_get xs k ≡ Some x → Is k x
