use Rattle.std.proofs.Common.{◌≡◌, ℕ, ◌+◌, ◌<◌}
use Rattle.like_bays.specs.Like.{led_by}
use Rattle.commissioning_tests.proofs.stands.leaves_bay.Given as goal

abbrev pub invariant-loop-i : goal.invariant-loop-i
invariant-loop-i l = (i : ℕ) → i < l.i → led_by l.table (l.first.0 + i) ≡ l.first.0 + i
