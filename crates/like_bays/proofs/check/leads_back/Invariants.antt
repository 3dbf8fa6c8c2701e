use Rattle.std.proofs.Common.{◌≡◌, ℕ, ◌<◌}
use Rattle.like_bays.specs.Like.{led_by}
use Rattle.like_bays.proofs.check.leads_back.Given as goal

abbrev pub invariant-loop-n : goal.invariant-loop-n
invariant-loop-n l = (n : ℕ) → n < l.n → led_by l.table (led_by l.table n) ≡ n
