-- The positions for which choices stand.
use Rattle.std.specs.Prelude.{◌==◌, ◌-◌, nat_lt, if◌then◌else◌, ℕ, Bool, false, List, slice_index}

-- The layer of the step at place p, where the step at place b has none.
abbrev pub layer_of : ℕ → ℕ → ℕ
layer_of b p = if nat_lt p b then p else p - 1

-- Whether the choices close the switch of the step at place p; that at place b stays open.
abbrev pub closed_at : ℕ → List ℕ → ℕ → Bool
closed_at b cs p = if p == b then false else (slice_index cs (layer_of b p) == 1)
