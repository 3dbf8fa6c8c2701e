use Rattle.std.proofs.Common.{◌≡◌, Bool, List, false, length, ap, ◌∙◌, arith}
use Rattle.std.proofs.lemmas.List.{length-replicate}
use Rattle.contraction.proofs.FlagLemmas.{classes_flagged}
use Rattle.contraction.proofs.marks.flag_at.Goals as goal

pub returns : goal.returns
returns c =
    let labels = c.args.labels.now in
    let cl : List Bool = c.note_both.new.classes in
    let none : length c.args.classes.now ≡ length labels =
    ap length c.requires.none ∙ length-replicate (length labels) false in
    let room : length cl ≡ length labels = omega (arith, none, c.note_both.auto.classes) in
    classes_flagged labels c.args.places.now c.args.first.now c.args.first_marks.now c.args.second.now
    c.args.second_marks.now c.requires.places c.spread_flags.new.row cl room c.requires.below c.note_both.ensures
    c.spread_flags.ensures.len c.spread_flags.ensures.flags
