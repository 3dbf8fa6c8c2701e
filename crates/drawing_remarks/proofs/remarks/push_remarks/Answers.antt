use Rattle.std.proofs.Common.{◌≡◌, ℕ, ◌<◌, ◌+◌, List, ◌++◌, Bool, length, cond, ap, ◌∙◌, sym, arith}
use Rattle.std.specs.List.{flat_map, range_with_len}
use Rattle.std.proofs.lemmas.List.{length-append}
use Rattle.ssd_read.specs.Elements.{Element, element_at}
use Rattle.ssd_read.specs.Names.{is_node}
use Rattle.station_lines.specs.Rows.{Row, text_of}
use Rattle.station_lines.proofs.Ranges.{flat_more}
use Rattle.drawing_remarks.specs.Labels.{is_said}
use Rattle.drawing_remarks.specs.Station.{node_number}
use Rattle.drawing_remarks.specs.StationText.{remark_rows_at}
use Rattle.drawing_remarks.proofs.RemarkRows.{text_more, number_more}
use Rattle.drawing_remarks.proofs.remarks.push_remarks.Goals as goal

pub loop-i-preserved : goal.loop-i-preserved
loop-i-preserved c =
    let f = c.args.facts.now in
    let l = c.loop-i in
    let all : List Element = f.whole.now in
    let at : ℕ → List Row = remark_rows_at all (is_said all f.station.now f.linked f.joined) in
    let before : List Row = flat_map at (range_with_len 0 l.i) in
    let same : c.drawing-drawing.result.now ≡ all = c.drawing-drawing.ensures.elements in
    let inside : l.i < length all = omega (arith, c.loop-i-test.true, c.count-i-end.ensures.count, ap length same) in
    record {
      few = omega (arith, l.invariant.few, c.in_ok-count.ensures.few);
      node = ap (λ (n : ℕ). n + c.one_if.result) l.invariant.node
          ∙ (ap (λ (n : ℕ). node_number all l.i + n) (c.one_if.ensures.value
          ∙ ap (λ (b : Bool). cond b 1 0)
          (c.is_node.ensures ∙ ap (λ (xs : List Element). is_node (element_at xs l.i)) same))
          ∙ sym (number_more all l.i inside));
      nodes = omega (arith, l.invariant.nodes, c.one_if.ensures.few);
      count = ap (λ (n : ℕ). n + c.in_ok-count.field-0) l.invariant.count
          ∙ (ap (λ (n : ℕ). length before + n) c.in_ok-count.ensures.count
          ∙ (sym (length-append before (at l.i)) ∙ ap length (sym (flat_more at l.i))));
      text = text_more c.args.text.now l.text c.push_remarks_at.new.text before (at l.i) l.invariant.text
          c.in_ok-count.ensures.text
          ∙ ap (λ (rows : List Row). c.args.text.now ++ text_of rows) (sym (flat_more at l.i));
    }
