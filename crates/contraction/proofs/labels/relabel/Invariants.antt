use Rattle.std.proofs.Common.{◌≡◌, ℕ, ◌<◌, ◌≤◌, ◌==◌, if◌then◌else◌, length, slice_index}
use Rattle.contraction.proofs.labels.relabel.Given as goal

abbrev pub invariant-loop-label : goal.invariant-loop-label
invariant-loop-label l =
    (length l.labels ≡ length l.initial.labels)
    × ((k : ℕ) → k < l.label-index → slice_index l.labels k ≡ (if slice_index l.initial.labels k == l.from then l.to
    else slice_index l.initial.labels k))
    × ((k : ℕ) → l.label-index ≤ k → slice_index l.labels k ≡ slice_index l.initial.labels k)
