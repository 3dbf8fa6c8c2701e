use Rattle.std.proofs.Common.{◌≡◌, ◌++◌}
use Rattle.central_rules.specs.Names.{texts_below}
use Rattle.bay_protocol.specs.OutcomeLines.{with_line}
use Rattle.bay_protocol.proofs.lines.push_reading.Given as goal

abbrev pub invariant-loop-i : goal.invariant-loop-i
invariant-loop-i l = l.text ≡ l.initial.text ++ texts_below (with_line l.prefix l.station l.reading l.moved.0) l.i
