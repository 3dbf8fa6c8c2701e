use Rattle.std.proofs.Common.{◌≡◌, ℕ, ◌<◌}
use Rattle.like_bays.specs.Like.{led_by, IsOutside}
use Rattle.like_bays.proofs.check.leaves.Given as goal

abbrev pub invariant-loop-s : goal.invariant-loop-s
invariant-loop-s l =
    (s : ℕ) → s < l.s → IsOutside l.first.0 l.count s → IsOutside l.second.0 l.count s → led_by l.table s ≡ s
