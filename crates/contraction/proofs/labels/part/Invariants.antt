use Rattle.std.proofs.Common.{◌≡◌, ℕ, ◌<◌, length, slice_index}
use Rattle.contraction.proofs.labels.part.Given as goal

abbrev pub invariant-loop-k : goal.invariant-loop-k
invariant-loop-k l =
    (length l.labels ≡ length l.initial.labels) × ((j : ℕ) → j < l.k → slice_index l.labels j ≡ j)
