-- What `audit` writes, and how it ends.
use Rattle.std.specs.Prelude.{◌≡◌, ℕ, List}
use Rattle.station_graph.specs.Diagram.{Diagram}
use Rattle.equation_audit.specs.Equations.{Equation}
use Rattle.equation_audit.specs.Findings.{AreFindings, some_differ}
use Rattle.equation_audit.specs.AuditText.{audit_text}
use Rattle.equation_audit.specs.declared.finding.Finding.{Finding}
use Rattle.interlock_cli.specs.OrderWrites.{done_or_differs}
use Rattle.interlock_cli.specs.declared.end.Outcome.{Outcome}

-- The text of what is found of each of the equations; one that is loose or strict is a difference.
abbrev pub AuditWrites : Diagram → List Equation → Outcome → List ℕ → Type 0
AuditWrites d es outcome text =
    (findings : List Finding) × AreFindings d es findings × (outcome ≡ done_or_differs (some_differ findings))
    × (text ≡ audit_text d findings)
