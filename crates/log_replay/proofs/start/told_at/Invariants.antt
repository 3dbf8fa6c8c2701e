use Rattle.std.proofs.Common.{◌≡◌, take, None}
use Rattle.reservation_core.specs.LogLines.{told_at}
use Rattle.log_replay.proofs.start.told_at.Given as goal

abbrev pub invariant-loop-i : goal.invariant-loop-i
invariant-loop-i l = told_at (take l.i l.log) l.id.0 ≡ None
