use Rattle.std.proofs.Common.{◌≡◌, ℕ, ◌<◌, length, false, get_or, slice_index}
use Rattle.contraction.specs.Rows.{flag}
use Rattle.contraction.proofs.marks.spread_flags.Given as goal

abbrev pub invariant-loop-k : goal.invariant-loop-k
invariant-loop-k l =
    (length l.row ≡ length l.places)
    × ((j : ℕ) → j < l.k →
    slice_index l.row j ≡ flag (get_or l.classes (slice_index l.labels (slice_index l.places j)) false))
