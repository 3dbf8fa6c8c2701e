use Rattle.std.proofs.Common.{ℕ, ◌<◌}
use Rattle.station_changes.specs.Compare.{SameSwitch}
use Rattle.like_bays.specs.Like.{led_by}
use Rattle.station_compare.proofs.likeness.LikeBays.agrees.Given as goal

abbrev pub invariant-loop-k : goal.invariant-loop-k
invariant-loop-k l =
    (i k : ℕ) → k < l.k → SameSwitch l.old l.new i k →
    SameSwitch l.old l.new (led_by l.self.old.items i) (led_by l.self.new.items k)
