-- What `station` writes, and how it ends.
use Rattle.std.specs.Prelude.{◌≡◌, ℕ, nat_lt, List}
use Rattle.ssd_read.specs.Elements.{Element}
use Rattle.drawing_remarks.specs.StationText.{IsStationReport}
use Rattle.drawing_remarks.specs.declared.text.StationReport.{StationReport}
use Rattle.interlock_cli.specs.OrderWrites.{done_or_differs}
use Rattle.interlock_cli.specs.declared.end.Outcome.{Outcome}

-- The text of the drawing with these elements; a remark is a difference.
abbrev pub StationWrites : List Element → Outcome → List ℕ → Type 0
StationWrites all outcome text =
    (report : StationReport) × IsStationReport all report × (outcome ≡ done_or_differs (nat_lt 0 report.remarks))
    × (text ≡ report.text)
