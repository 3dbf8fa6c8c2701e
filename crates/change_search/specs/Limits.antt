-- The limits of walks.
use Rattle.std.specs.Prelude.{◌/◌, ℕ, min, max}
use Rattle.change_search.specs.declared.limits.TheConstants.{WALK_EDGES, ALL_WALK_EDGES}

-- How many edges a walk may have where n switches are walked: they share what all walks may have together.
abbrev pub walk_limit : ℕ → ℕ
walk_limit n = min (ALL_WALK_EDGES / max n 1) WALK_EDGES
