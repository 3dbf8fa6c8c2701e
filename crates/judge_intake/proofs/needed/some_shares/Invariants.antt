use Rattle.std.proofs.Common.{◌≡◌, ◌<◌, ℕ, List, slice_get, Some, Contains}
use Rattle.judge_intake.proofs.needed.some_shares.Given as goal

-- none of the parts so far has the node
abbrev pub invariant-loop-part : goal.invariant-loop-part
invariant-loop-part l =
    (k : ℕ) (nodes : List ℕ) → k < l.part → slice_get l.shared k ≡ Some nodes → Contains nodes l.node → ⊥
