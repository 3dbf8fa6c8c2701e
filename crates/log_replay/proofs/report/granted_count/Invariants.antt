use Rattle.std.proofs.Common.{◌≡◌, take, map}
use Rattle.log_replay.specs.Replay.{is_granted, how_many, shown_at}
use Rattle.log_replay.proofs.report.granted_count.Given as goal

abbrev pub invariant-loop-i : goal.invariant-loop-i
invariant-loop-i l = l.count ≡ how_many is_granted (map shown_at (take l.i l.outcomes))
