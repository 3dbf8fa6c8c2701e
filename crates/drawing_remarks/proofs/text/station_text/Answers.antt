use Rattle.std.proofs.Common.{ℕ, List, ◌++◌, length, ap, ◌∙◌, sym, subst}
use Rattle.ssd_read.specs.Elements.{Element}
use Rattle.station_lines.specs.Rows.{Row, text_of}
use Rattle.station_lines.specs.Lines.{rows_of}
use Rattle.drawing_remarks.specs.declared.text.StationReport.{StationReport}
use Rattle.drawing_remarks.specs.Labels.{is_said}
use Rattle.drawing_remarks.specs.StationText.{remark_rows, count_rows, IsStationReport}
use Rattle.drawing_remarks.proofs.RemarkRows.{whole_text}
use Rattle.drawing_remarks.proofs.SaidLemmas.{said_exactly}
use Rattle.drawing_remarks.proofs.text.station_text.Goals as goal

pub returns : goal.returns
returns c =
    let f = c.in_ok-facts.facts in
    let e = c.in_ok-facts.ensures in
    let all : List Element = f.whole.now in
    let d = f.station.now in
    let says = is_said all d f.linked f.joined in
    let rows : List Row = remark_rows all says in
    let first = c.in_ok-push_rows.ensures
    ∙ ap (λ (xs : List Element). c.new-text.result ++ text_of (rows_of xs)) (sym e.whole) in
    let last = c.in_ok-push_counts.ensures
    ∙ ap (λ (n : ℕ). c.push_remarks.new.text ++ text_of (count_rows d n)) c.in_ok-remarks.ensures.count in
    let report : StationReport = record { text = c.push_counts.new.text; remarks = c.in_ok-remarks.remarks } in
    subst (λ (xs : List Element). IsStationReport xs report) e.whole (record {
      diagram = d;
      stands = e.facts.stands;
      says = says;
      exact = said_exactly all d f.linked f.joined e.facts.stands e.facts.is_station e.linked e.joined;
      text = whole_text c.new-text.result c.push_rows.new.text c.push_remarks.new.text c.push_counts.new.text
          (rows_of all) rows (count_rows d (length rows)) c.new-text.ensures first c.in_ok-remarks.ensures.text last;
      remarks = c.in_ok-remarks.ensures.count;
    })
