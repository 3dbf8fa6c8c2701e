-- Places at which numbers stand in a list.
use Rattle.std.specs.Prelude.{◌≡◌, ℕ, ◌<◌, List, length, slice_index}

-- At the first of these places stands 0, at the second 1, and so on.
abbrev pub ArePlaces : List ℕ → List ℕ → Type 0
ArePlaces numbers places =
    (t : ℕ) → t < length places → (slice_index places t < length numbers) × (slice_index numbers (slice_index places t) ≡ t)
