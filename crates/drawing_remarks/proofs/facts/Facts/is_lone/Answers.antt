use Rattle.std.proofs.Common.{◌||◌, Bool, take, ap, ◌∙◌, sym}
use Rattle.std.specs.List.{list_any}
use Rattle.drawing_remarks.specs.Labels.{gap_labelled}
use Rattle.drawing_remarks.proofs.Loops.{any_next}
use Rattle.drawing_remarks.proofs.facts.Facts.is_lone.Goals as goal

pub loop-i-preserved : goal.loop-i-preserved
loop-i-preserved c =
    let p = gap_labelled c.args.self.now.linked c.get-label.result.0 in
    let xs = c.args.self.now.station.now.switches in
    c.either-found.ensures
    ∙ (ap (λ (b : Bool). b || c.gap_labelled.result) c.loop-i.invariant
    ∙ (ap (λ (b : Bool). list_any p (take c.loop-i.i xs) || b) c.gap_labelled.ensures
    ∙ sym (any_next p xs c.loop-i.i c.switch.result c.switch.ensures.value)))
