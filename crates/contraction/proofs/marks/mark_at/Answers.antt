use Rattle.std.proofs.Common.{◌≡◌, Bool, List, false, length, ap, ◌∙◌, arith}
use Rattle.std.proofs.lemmas.List.{length-replicate}
use Rattle.contraction.proofs.MarkLemmas.{classes_marked}
use Rattle.contraction.proofs.marks.mark_at.Goals as goal

pub returns : goal.returns
returns c =
    let labels = c.args.labels.now in
    let cl : List Bool = c.note_both.new.classes in
    let none : length c.args.classes.now ≡ length labels =
    ap length c.requires.none ∙ length-replicate (length labels) false in
    classes_marked labels c.args.places.now c.args.first.now c.args.first_marks.now c.args.second.now
    c.args.second_marks.now cl (omega (arith, none, c.note_both.auto.classes)) c.requires.places c.requires.below
    c.note_both.ensures c.spread_at.new.row c.spread_at.ensures.len c.spread_at.ensures.marks
