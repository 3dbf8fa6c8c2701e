use Rattle.std.proofs.Common.{◌≡◌, ◌++◌}
use Rattle.central_rules.specs.Names.{texts_below}
use Rattle.reservation_core.specs.ReportLines.{bay_line}
use Rattle.log_replay.proofs.report_lines.push_bays.Given as goal

abbrev pub invariant-loop-i : goal.invariant-loop-i
invariant-loop-i l = l.text ≡ l.initial.text ++ texts_below (bay_line l.station) l.i
