use Rattle.std.proofs.Common.{◌≡◌, ℕ, ◌<◌, length, slice_get, slice_index}
use Rattle.contraction.proofs.marks.spread_at.Given as goal

abbrev pub invariant-loop-k : goal.invariant-loop-k
invariant-loop-k l =
    (length l.row ≡ length l.places)
    × ((j : ℕ) → j < l.k →
    slice_get l.row j ≡ slice_get l.classes (slice_index l.labels (slice_index l.places j)))
