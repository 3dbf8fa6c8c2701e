use Rattle.std.proofs.Common.{◌≡◌, take}
use Rattle.std.specs.Prelude.{flat_map}
use Rattle.equation_audit.specs.AuditText.{finding_text}
use Rattle.equation_audit.proofs.findings.Audit.lines.Given as goal

abbrev pub invariant-loop-finding : goal.invariant-loop-finding
invariant-loop-finding l = record {
  names : l.text.names ≡ l.station.switch_paths;
  text : l.text.text ≡ flat_map (finding_text l.station) (take l.finding-index l.self);
}
