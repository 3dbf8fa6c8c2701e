use Rattle.std.proofs.Common.{◌≡◌, ℕ, ◌<◌, length, slice_index}
use Rattle.contraction.proofs.labels.spread_firsts.Given as goal

abbrev pub invariant-loop-k : goal.invariant-loop-k
invariant-loop-k l =
    (length l.row ≡ length l.places)
    × ((j : ℕ) → j < l.k →
    slice_index l.row j ≡ slice_index l.firsts (slice_index l.labels (slice_index l.places j)))
