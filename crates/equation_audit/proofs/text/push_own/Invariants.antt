use Rattle.std.proofs.Common.{◌≡◌, ◌++◌}
use Rattle.central_rules.specs.Names.{texts_below}
use Rattle.equation_audit.specs.AuditText.{own_at}
use Rattle.equation_audit.proofs.text.push_own.Given as goal

abbrev pub invariant-loop-i : goal.invariant-loop-i
invariant-loop-i l = record {
  text : l.text.text ≡ l.initial.text.text ++ texts_below (own_at l.station l.own l.vector) l.i;
  names : l.text.names ≡ l.station.switch_paths;
  same : l.text.names ≡ l.initial.text.names;
}
