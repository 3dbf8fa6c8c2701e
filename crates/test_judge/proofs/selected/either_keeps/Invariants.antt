use Rattle.std.proofs.Common.{◌⊎◌, ℕ, ◌<◌, slice_index}
use Rattle.contraction.specs.Answers.{Keeps}
use Rattle.test_judge.proofs.selected.either_keeps.Given as goal

abbrev pub invariant-loop-i : goal.invariant-loop-i
invariant-loop-i l = (k : ℕ) → k < l.i → Keeps l.x.kept (slice_index l.nodes k) ⊎ Keeps l.y.kept (slice_index l.nodes k)
