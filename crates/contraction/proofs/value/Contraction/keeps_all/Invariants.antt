use Rattle.std.proofs.Common.{ℕ, ◌<◌, slice_index}
use Rattle.contraction.specs.Answers.{Keeps}
use Rattle.contraction.proofs.value.Contraction.keeps_all.Given as goal

abbrev pub invariant-loop-i : goal.invariant-loop-i
invariant-loop-i l = (k : ℕ) → k < l.i → Keeps l.self.kept (slice_index l.nodes k)
