-- What `compare` writes, and how it ends.
use Rattle.std.specs.Prelude.{◌≡◌, ◌⊎◌, ℕ, not, List}
use Rattle.station_graph.specs.Diagram.{Diagram}
use Rattle.station_compare.specs.Comparing.{IsWideBay}
use Rattle.compare_text.specs.CompareText.{IsCompareReport}
use Rattle.compare_text.specs.declared.text.CompareReport.{CompareReport}
use Rattle.interlock_cli.specs.OrderWrites.{done_or_differs}
use Rattle.interlock_cli.specs.WalkRefusals.{RefusesWalk}
use Rattle.interlock_cli.specs.declared.end.Outcome.{Outcome}

-- The text of the new station held against the old one; it differs where the new one does not extend the old one.
pub record WritesReport (old new : Diagram) (outcome : Outcome) (text : List ℕ) : Type 0 where
  pub report : CompareReport
  pub is_report : IsCompareReport old new report
  pub outcome_is : outcome ≡ done_or_differs (not report.extends)
  pub text_is : text ≡ report.lines.text

-- One, or the walk of a switch of a bay of the new station is too wide, and nothing is written.
abbrev pub CompareWrites : Diagram → Diagram → Outcome → List ℕ → Type 0
CompareWrites old new outcome text = WritesReport old new outcome text ⊎ RefusesWalk (IsWideBay old new) outcome text
