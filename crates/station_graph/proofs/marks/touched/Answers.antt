use Rattle.std.proofs.Common.{◌∙◌, ℕ, ap, false, drop, length, arith}
use Rattle.std.proofs.Math.ListN.{replicate}
use Rattle.station_graph.specs.Diagram.{node_count}
use Rattle.station_graph.specs.Marking.{TouchedFrom}
use Rattle.station_graph.proofs.MarkLemmas.{marked_exactly, taken_back}
use Rattle.station_graph.proofs.marks.touched.Goals as goal

pub returns-clause-exact : goal.returns-clause-exact
returns-clause-exact c =
    let d = c.args.station.now in
    let marks = c.in_ok-marks.marks in
    let new = c.mark_items.new.marks in
    rw (taken_back new (drop (length new) marks.items) marks.len
    (omega (arith, c.mark_items.ensures.len, c.deref_mut.ensures.len)))
    (marked_exactly (TouchedFrom c.args.inside c.args.part.0 d) (node_count d) c.deref_mut.result.now new
    (c.deref_mut.ensures.value
    ∙ (c.in_ok-marks.ensures ∙ ap (λ (k : ℕ). replicate k false) c.node_count.ensures.count)) c.mark_items.ensures)
