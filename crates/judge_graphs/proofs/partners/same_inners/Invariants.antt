use Rattle.std.proofs.Common.{◌≡◌, ℕ, ◌<◌, slice_get, Some}
use Rattle.decision_graphs.specs.Label.{Layered}
use Rattle.judge_graphs.proofs.partners.same_inners.Given as goal

abbrev pub invariant-loop-place : goal.invariant-loop-place
invariant-loop-place l =
    (k : ℕ) (v w : Layered) → k < l.place → slice_get l.fn.one k ≡ Some v → slice_get l.fn.other k ≡ Some w → v ≡ w
