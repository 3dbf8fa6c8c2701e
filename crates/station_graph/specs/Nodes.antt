-- Lists of nodes.
use Rattle.std.specs.Prelude.{ℕ, ◌<◌, List, length, slice_index}

-- The nodes rise: each is less than every later one, so none stands twice.
abbrev pub Rises : List ℕ → Type 0
Rises nodes = (j k : ℕ) → j < k → k < length nodes → slice_index nodes j < slice_index nodes k
