-- The paths that steps add to a station.
use Rattle.std.specs.Prelude.{ℕ, List, [], ◌∷◌, ◌++◌, Option, Some, None, slice_index_or}
use Rattle.ssd_read.specs.Steps.{Step, a_node, a_switch}

-- The path of the node that a step adds.
abbrev pub added_node : Step → Option (List ℕ)
added_node (a_node path) = Some path
added_node _ = None

-- The path of a switch among these parts.
abbrev pub switch_path_in : List (List ℕ) → Step → Option (List ℕ)
switch_path_in parts (a_switch name x) = Some (slice_index_or parts x.bay.0 [] ++ 47 ∷ name)
switch_path_in parts _ = None
