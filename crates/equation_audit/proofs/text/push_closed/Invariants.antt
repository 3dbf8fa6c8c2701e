use Rattle.std.proofs.Common.{◌≡◌, ◌++◌}
use Rattle.central_rules.specs.Names.{texts_below}
use Rattle.equation_audit.specs.AuditText.{closed_at}
use Rattle.equation_audit.proofs.text.push_closed.Given as goal

abbrev pub invariant-loop-i : goal.invariant-loop-i
invariant-loop-i l = record {
  text : l.text.text ≡ l.initial.text.text ++ texts_below (closed_at l.station l.moved.0 l.vector) l.i;
  names : l.text.names ≡ l.station.switch_paths;
  same : l.text.names ≡ l.initial.text.names;
}
