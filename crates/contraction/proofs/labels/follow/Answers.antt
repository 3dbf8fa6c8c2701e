use Rattle.std.proofs.Common.{◌≡◌, slice_index, ap, sym, ◌∙◌, arith}
use Rattle.station_graph.specs.Classes.{merged}
use Rattle.contraction.proofs.EdgeLemmas.{merged_self}
use Rattle.contraction.proofs.labels.follow.Goals as goal

pub returns-else-label-i : goal.returns-else-label-i
returns-else-label-i c =
    let labels = c.args.labels.now in
    let p = c.args.places.now in
    let l = c.args.row.now in
    let i = c.args.i in
    let own : slice_index l i ≡ i = omega arith in
    merged_self labels (slice_index p i)
    ∙ ap (λ k. merged labels (slice_index p i) (slice_index p k)) (sym own)
