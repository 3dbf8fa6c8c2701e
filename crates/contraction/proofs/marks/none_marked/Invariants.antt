use Rattle.std.proofs.Common.{◌≢◌, ℕ, ◌<◌, true, slice_get, Some}
use Rattle.contraction.proofs.marks.none_marked.Given as goal

abbrev pub invariant-loop-mark : goal.invariant-loop-mark
invariant-loop-mark l = (j : ℕ) → j < l.mark-index → slice_get l.marks j ≢ Some true
