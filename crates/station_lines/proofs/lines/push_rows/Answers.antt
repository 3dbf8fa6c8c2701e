use Rattle.std.proofs.Common.{◌≡◌, ◌++◌, ℕ, List, length, ap, ◌∙◌, sym, append_assoc, arith}
use Rattle.std.specs.List.{flat_map, range_with_len}
use Rattle.std.proofs.lemmas.List.{append-nil}
use Rattle.std.proofs.lemmas.List.Concat.{flat_map-append}
use Rattle.station_lines.specs.Rows.{row_text, text_of}
use Rattle.station_lines.specs.Lines.{rows_at}
use Rattle.station_lines.proofs.Ranges.{flat_more}
use Rattle.station_lines.proofs.lines.push_rows.Goals as goal

pub loop-i-init : goal.loop-i-init
loop-i-init c = sym (append-nil c.args.text.now)

pub loop-i-preserved : goal.loop-i-preserved
loop-i-preserved c =
    let l = c.loop-i in
    let all = c.args.whole.now in
    let before = flat_map (rows_at all) (range_with_len 0 l.i) in
    c.in_ok-push_element.ensures
    ∙ (ap (λ (t : List ℕ). t ++ text_of (rows_at all l.i)) l.invariant
    ∙ (append_assoc c.args.text.now (text_of before) (text_of (rows_at all l.i))
    ∙ ap (λ (t : List ℕ). c.args.text.now ++ t)
    (sym (ap text_of (flat_more (rows_at all) l.i) ∙ flat_map-append row_text before (rows_at all l.i)))))

pub returns : goal.returns
returns c =
    let l = c.loop-i in
    let all = c.args.whole.now in
    let end : l.i ≡ length all = omega (arith, ap length c.drawing.ensures.elements) in
    l.invariant ∙ ap (λ (n : ℕ). c.args.text.now ++ text_of (flat_map (rows_at all) (range_with_len 0 n))) end
