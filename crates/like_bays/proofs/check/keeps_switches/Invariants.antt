use Rattle.std.proofs.Common.{ℕ, ◌<◌}
use Rattle.like_bays.specs.Kept.{KeepsSwitch}
use Rattle.like_bays.proofs.check.keeps_switches.Given as goal

abbrev pub invariant-loop-i : goal.invariant-loop-i
invariant-loop-i l = (i : ℕ) → i < l.i → KeepsSwitch l.station l.tables.switches.items l.tables.nodes.items i
