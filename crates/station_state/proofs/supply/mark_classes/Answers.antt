use Rattle.std.proofs.Common.{arith, ap, false, slice_index}
use Rattle.station_graph.specs.Diagram.{node_count}
use Rattle.station_graph.specs.Connection.{Touching}
use Rattle.station_state.proofs.MarkedLemmas.{label_in}
use Rattle.station_state.proofs.supply.mark_classes.Goals as goal

pub mark-requires : goal.mark-requires
mark-requires c =
    let labels = c.args.labels.now in
    let lt = label_in (Touching false c.args.station.now c.args.vector.now) (node_count c.args.station.now) labels
    c.requires.labels c.switch-switch.result.first.0 c.switch-switch.ensures.fits.first_in in
    let from = ap (slice_index labels) c.from.ensures in
    omega (arith, lt, c.get.ensures, from, c.loop-i.invariant.len, c.requires.marks)
