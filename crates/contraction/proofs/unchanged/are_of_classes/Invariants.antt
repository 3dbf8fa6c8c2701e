use Rattle.std.proofs.Common.{◌≡◌, ℕ, ◌<◌, slice_get, slice_index}
use Rattle.contraction.proofs.unchanged.are_of_classes.Given as goal

abbrev pub invariant-loop-k : goal.invariant-loop-k
invariant-loop-k l = (k : ℕ) → k < l.k → slice_get l.fn.marks k ≡ slice_get l.fn.marks (slice_index l.fn.labels k)
