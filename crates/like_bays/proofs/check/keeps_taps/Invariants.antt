use Rattle.std.proofs.Common.{ℕ, ◌<◌}
use Rattle.like_bays.specs.Kept.{KeepsTap}
use Rattle.like_bays.proofs.check.keeps_taps.Given as goal

abbrev pub invariant-loop-i : goal.invariant-loop-i
invariant-loop-i l = (i : ℕ) → i < l.i → KeepsTap l.station l.tables.nodes.items i
