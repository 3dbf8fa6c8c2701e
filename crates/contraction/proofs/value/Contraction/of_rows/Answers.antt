use Rattle.std.proofs.Common.{sym, ◌∙◌, ap}
use Rattle.contraction.specs.Inside.{answers_of}
use Rattle.contraction.specs.Rows.{gap_row, load_row}
use Rattle.contraction.proofs.BothLemmas.{beside_well, rows_beside, rows_keep}
use Rattle.contraction.proofs.value.Contraction.of_rows.Goals as goal

pub invariant_of-result : goal.invariant_of-result
invariant_of-result c =
    let x = answers_of c.one.inside in
    let y = answers_of c.other.inside in
    let gap = c.in_ok-one.ensures.row ∙ ap gap_row (sym c.one.view_is) in
    let load = c.in_ok-other.ensures.row ∙ ap load_row (sym c.other.view_is) in
    beside_well x y c.one.invariant c.other.invariant
    (rows_keep c.requires.value x y c.args.rows.now.gap c.args.rows.now.load c.requires.rows c.one.invariant
    c.other.invariant gap load)

pub returns : goal.returns
returns c =
    let x = answers_of c.one.inside in
    let y = answers_of c.other.inside in
    let gap = c.in_ok-one.ensures.row ∙ ap gap_row (sym c.one.view_is) in
    let load = c.in_ok-other.ensures.row ∙ ap load_row (sym c.other.view_is) in
    rows_beside x y c.args.rows.now.gap c.args.rows.now.load c.one.invariant c.other.invariant
    (rows_keep c.requires.value x y c.args.rows.now.gap c.args.rows.now.load c.requires.rows c.one.invariant
    c.other.invariant gap load) gap load
