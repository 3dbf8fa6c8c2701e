use Rattle.std.proofs.Common.{◌∙◌, ℕ, ap, false, drop, length, arith}
use Rattle.std.proofs.Math.ListN.{replicate}
use Rattle.station_graph.proofs.MarkLemmas.{taken_back}
use Rattle.station_state.proofs.MarkedLemmas.{is_marked, length_none}
use Rattle.station_state.proofs.supply.classes_with.Goals as goal

pub returns : goal.returns
returns c =
    let d = c.args.station.now in
    let marks = c.in_ok-marks.marks in
    let new = c.mark_classes.new.marks in
    let none = c.deref_mut.ensures.value
    ∙ (c.in_ok-marks.ensures ∙ ap (λ (k : ℕ). replicate k false) c.node_count.ensures.count) in
    rw (taken_back new (drop (length new) marks.items) marks.len
    (omega (arith, c.mark_classes.ensures.len, c.deref_mut.ensures.len)))
    (is_marked d c.args.vector.now c.args.kind c.args.labels.now c.deref_mut.result.now new none
    (length_none c.deref_mut.result.now d none) c.mark_classes.ensures)
