use Rattle.std.proofs.Common.{ℕ, ◌<◌, ◌+◌, List, [], ◌∷◌, ◌++◌, Bool, length, take, map, cond, ap, ◌∙◌, sym, arith}
use Rattle.std.specs.List.{filter}
use Rattle.std.proofs.lemmas.List.{get_or_default}
use Rattle.station_lines.specs.Rows.{Row, text_of}
use Rattle.drawing_remarks.specs.declared.kinds.RemarkKind.{RemarkKind}
use Rattle.drawing_remarks.specs.declared.kinds.TheConstants.{KINDS}
use Rattle.drawing_remarks.specs.Labels.{is_said}
use Rattle.drawing_remarks.specs.Places.{remark_path}
use Rattle.drawing_remarks.specs.StationText.{remark_row}
use Rattle.drawing_remarks.proofs.RemarkRows.{text_more, text_said, rows_more, count_more}
use Rattle.drawing_remarks.proofs.remarks.push_remarks_at.Goals as goal

pub loop-kind-preserved : goal.loop-kind-preserved
loop-kind-preserved c =
    let f = c.args.facts.now in
    let l = c.loop-kind in
    let p : RemarkKind → Bool = λ kind. is_said f.whole.now f.station.now f.linked f.joined kind c.args.i in
    let row : RemarkKind → Row = remark_row (remark_path f.whole.now c.args.i) in
    let inside : l.kind-index < length KINDS = c.loop-kind-test.true in
    let at = get_or_default KINDS l.kind-index _ _ inside in
    record {
      few = omega (arith, c.one_if-count.ensures.few);
      count = ap (λ (n : ℕ). n + c.one_if-count.result) l.invariant.count
          ∙ (ap (λ (n : ℕ). length (filter p (take l.kind-index KINDS)) + n)
          (c.one_if-count.ensures.value ∙ ap (λ (b : Bool). cond b 1 0) c.in_ok-said.ensures.said)
          ∙ sym (count_more row p KINDS l.kind-index _ inside at));
      text = text_more c.args.text.now l.text c.push_remark.new.text (map row (filter p (take l.kind-index KINDS)))
          (cond (p _) (row _ ∷ []) []) l.invariant.text
          (text_said row l.text c.push_remark.new.text c.in_ok-said.said _ _ c.in_ok-said.ensures.text
          c.in_ok-said.ensures.said)
          ∙ ap (λ (rows : List Row). c.args.text.now ++ text_of rows)
          (sym (rows_more row p KINDS l.kind-index _ inside at));
    }
