use Rattle.std.proofs.Common.{◌≡◌, ℕ, ◌<◌, slice_get, Some}
use Rattle.contraction.specs.Answers.{Answers}
use Rattle.judge_pool.proofs.lying.all_keep.Given as goal

abbrev pub invariant-loop-k : goal.invariant-loop-k
invariant-loop-k l =
    (k i : ℕ) (x : Answers) → k < l.k → slice_get l.ids k ≡ Some i → slice_get l.values i ≡ Some x → x.kept ≡ l.nodes
