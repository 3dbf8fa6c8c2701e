use Rattle.std.proofs.Common.{◌≡◌, ℕ, ◌<◌, slice_index}
use Rattle.contraction.proofs.unchanged.joins_none.Given as goal

abbrev pub invariant-loop-k : goal.invariant-loop-k
invariant-loop-k l =
    (k : ℕ) → k < l.k → slice_index l.fn.labels (slice_index l.fn.places k) ≡
    slice_index l.fn.labels (slice_index l.fn.places (slice_index l.fn.others k))
