use Rattle.std.proofs.Common.{◌≡◌, ◌++◌, take, map}
use Rattle.reservation_core.specs.ReportLines.{all_lines}
use Rattle.log_replay.specs.Replay.{shown_at}
use Rattle.log_replay.proofs.report_lines.push_all.Given as goal

abbrev pub invariant-loop-i : goal.invariant-loop-i
invariant-loop-i l = l.text ≡ l.initial.text ++ all_lines l.station (map shown_at (take l.i l.outcomes))
