use Rattle.std.proofs.Common.{◌≡◌, ℕ, ◌<◌, length, slice_index, slice_get}
use Rattle.contraction.proofs.places.picked.Given as goal

abbrev pub invariant-loop-k : goal.invariant-loop-k
invariant-loop-k types l =
    (length l.row.items ≡ l.k)
    × ((j : ℕ) → j < l.k → slice_get l.row.items j ≡ slice_get l.all (slice_index l.places j))
