use Rattle.std.proofs.Common.{◌≡◌, ℕ, ◌<◌, true, Some, slice_get, slice_index}
use Rattle.contraction.proofs.unchanged.marks_none.Given as goal

abbrev pub invariant-loop-k : goal.invariant-loop-k
invariant-loop-k l =
    (k : ℕ) → k < l.k → slice_get l.fn.others k ≡ Some true →
    slice_get l.fn.marks (slice_index l.fn.places k) ≡ Some true
