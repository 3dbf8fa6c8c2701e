use Rattle.std.proofs.Common.{◌≡◌, ◌≤◌, ◌++◌, length, take, map}
use Rattle.std.specs.List.{filter}
use Rattle.station_lines.specs.Rows.{text_of}
use Rattle.drawing_remarks.specs.declared.kinds.TheConstants.{KINDS}
use Rattle.drawing_remarks.specs.Labels.{is_said}
use Rattle.drawing_remarks.specs.Places.{remark_path}
use Rattle.drawing_remarks.specs.StationText.{remark_row}
use Rattle.drawing_remarks.proofs.remarks.push_remarks_at.Given as goal

abbrev pub invariant-loop-kind : goal.invariant-loop-kind
invariant-loop-kind l = record {
  few : l.count ≤ l.kind-index;
  count : l.count ≡ length (filter (λ kind. is_said l.facts.whole.now l.facts.station.now l.facts.linked l.facts.joined
      kind l.i) (take l.kind-index KINDS));
  text : l.text ≡ l.initial.text ++ text_of (map (remark_row (remark_path l.facts.whole.now l.i))
      (filter (λ kind. is_said l.facts.whole.now l.facts.station.now l.facts.linked l.facts.joined kind l.i)
      (take l.kind-index KINDS)));
}
