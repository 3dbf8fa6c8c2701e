use Rattle.std.proofs.Common.{◌≡◌, ℕ, ◌<◌, Some, slice_get}
use Rattle.bay_contract.specs.Courses.{AtOnePlace}
use Rattle.bay_contract.proofs.like.are_related.Given as goal

-- so far they stand at one place
abbrev pub invariant-loop-i : goal.invariant-loop-i
invariant-loop-i l =
    (k n m : ℕ) → k < l.i → slice_get l.nodes k ≡ Some n → slice_get l.others k ≡ Some m → AtOnePlace l.from l.to n m
