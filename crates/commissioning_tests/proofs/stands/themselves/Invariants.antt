use Rattle.std.proofs.Common.{◌≡◌, ℕ, length, slice_get, Some}
use Rattle.commissioning_tests.proofs.stands.themselves.Given as goal

abbrev pub invariant-loop-s : goal.invariant-loop-s
invariant-loop-s l =
    (length l.stands.items ≡ l.s) × ((s t : ℕ) → slice_get l.stands.items s ≡ Some t → s ≡ t)
