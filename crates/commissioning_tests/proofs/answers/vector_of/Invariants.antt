use Rattle.std.proofs.Common.{◌≡◌, ℕ, ◌<◌, length, slice_get}
use Rattle.commissioning_tests.proofs.answers.vector_of.Given as goal

abbrev pub invariant-loop-i : goal.invariant-loop-i
invariant-loop-i l =
    (length l.vector ≡ length l.closed)
    × ((j : ℕ) → j < l.i → slice_get l.vector j ≡ slice_get l.closed j)
