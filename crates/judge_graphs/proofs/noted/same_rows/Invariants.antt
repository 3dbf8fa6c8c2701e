use Rattle.std.proofs.Common.{◌≡◌, ℕ, ◌<◌, Vec, Global, slice_get, Some}
use Rattle.judge_graphs.proofs.noted.same_rows.Given as goal

abbrev pub invariant-loop-place : goal.invariant-loop-place
invariant-loop-place l =
    (k : ℕ) (v w : Vec ℕ Global) → k < l.place → slice_get l.fn.one k ≡ Some v → slice_get l.fn.other k ≡ Some w →
    v.items ≡ w.items
