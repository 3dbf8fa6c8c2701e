use Rattle.std.proofs.Common.{◌≡◌, take}
use Rattle.reservation_core.specs.LogLines.{at_count}
use Rattle.log_replay.proofs.start.at_count.Given as goal

abbrev pub invariant-loop-i : goal.invariant-loop-i
invariant-loop-i l = l.count ≡ at_count (take l.i l.log)
