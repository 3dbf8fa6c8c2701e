-- Paths of switches.
use Rattle.std.specs.Prelude.{◌≡◌, ◌<◌, ℕ, suc, List, [], ◌∷◌, length, slice_index_or, Option, Some, None, option_map}
use Rattle.std.specs.Prelude.{if◌then◌else◌}
use Rattle.std.specs.Str.{bytes_eq}

-- No two places have one path.
abbrev pub IsDistinct : List (List ℕ) → Type 0
IsDistinct paths = (i j : ℕ) → i < length paths → j < length paths →
    slice_index_or paths i [] ≡ slice_index_or paths j [] → i ≡ j

-- The place of the first path that is equal to it.
abbrev pub place_of : List ℕ → List (List ℕ) → Option ℕ
place_of path [] = None
place_of path (p ∷ paths) = if bytes_eq p path then Some 0 else option_map suc (place_of path paths)
