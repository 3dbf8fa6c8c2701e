use Rattle.std.proofs.Common.{◌||◌, Bool, take, ap, ◌∙◌, sym}
use Rattle.std.specs.List.{list_any}
use Rattle.drawing_remarks.specs.Station.{is_earthed_by}
use Rattle.drawing_remarks.proofs.Loops.{any_next}
use Rattle.drawing_remarks.proofs.nodes.is_earthed.Goals as goal

pub loop-i-preserved : goal.loop-i-preserved
loop-i-preserved c =
    let p = is_earthed_by c.args.node in
    let xs = c.args.station.now.switches in
    c.either-found.ensures
    ∙ (ap (λ (b : Bool). b || c.is_earthed_by.result) c.loop-i.invariant
    ∙ (ap (λ (b : Bool). list_any p (take c.loop-i.i xs) || b) c.is_earthed_by.ensures
    ∙ sym (any_next p xs c.loop-i.i c.switch.result c.switch.ensures.value)))
