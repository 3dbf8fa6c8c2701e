use Rattle.std.proofs.Common.{ℕ, ◌<◌}
use Rattle.commissioning_tests.specs.Growing.{FeedsEarth}
use Rattle.commissioning_tests.proofs.sound.is_sound.Given as goal

abbrev pub invariant-loop-i : goal.invariant-loop-i
invariant-loop-i l = (i : ℕ) → i < l.i → ¬ FeedsEarth l.station l.vector i
