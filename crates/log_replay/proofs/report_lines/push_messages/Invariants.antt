use Rattle.std.proofs.Common.{◌≡◌, ◌++◌, take}
use Rattle.std.specs.List.{flat_map}
use Rattle.reservation_core.specs.Lines.{messages}
use Rattle.reservation_core.specs.ReportLines.{message_line}
use Rattle.log_replay.proofs.report_lines.push_messages.Given as goal

abbrev pub invariant-loop-i : goal.invariant-loop-i
invariant-loop-i l = l.text ≡ l.initial.text ++ flat_map (message_line l.line) (messages l.first (take l.i l.frames))
