use Rattle.std.proofs.Common.{◌≡◌, ℕ, ◌<◌, Some, slice_get}
use Rattle.bay_contract.specs.declared.course.Turn.{Turn}
use Rattle.bay_contract.specs.Courses.{AtOnePlace, IsLikeTurn}
use Rattle.bay_contract.proofs.like.are_like_turns.Given as goal

-- so far each is like its partner
abbrev pub invariant-loop-j : goal.invariant-loop-j
invariant-loop-j l =
    (k : ℕ) (s t : Turn) → k < l.j → slice_get l.turns k ≡ Some s → slice_get l.others k ≡ Some t
    → IsLikeTurn (AtOnePlace l.from l.to) s t
