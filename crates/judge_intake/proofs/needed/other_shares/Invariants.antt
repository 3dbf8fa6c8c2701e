use Rattle.std.proofs.Common.{◌≡◌, ◌<◌, ◌≤◌, ℕ, List, slice_get, Some, Contains}
use Rattle.judge_pool.specs.Graphs.{other_of}
use Rattle.judge_intake.proofs.needed.other_shares.Given as goal

-- none of the parts so far has the node
abbrev pub invariant-loop-i : goal.invariant-loop-i
invariant-loop-i l =
    (k : ℕ) (nodes : List ℕ) → l.from ≤ k → k < l.i → slice_get l.shared (other_of 0 l.bay.0 k) ≡ Some nodes →
    Contains nodes l.node → ⊥
