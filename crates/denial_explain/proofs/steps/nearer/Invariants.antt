use Rattle.std.proofs.Common.{ℕ, ◌≡◌, ◌<◌, slice_get, Some}
use Rattle.denial_explain.specs.Stepping.{HasSteps}
use Rattle.denial_explain.proofs.steps.nearer.Given as goal

abbrev pub invariant-loop-node : goal.invariant-loop-node
invariant-loop-node l =
    (j m : ℕ) → j < l.node-index → slice_get l.nodes j ≡ Some m → HasSteps l.steps m l.left → ⊥
