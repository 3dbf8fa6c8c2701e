use Rattle.std.proofs.Common.{◌≡◌, slice_index, ap, sym, ◌∙◌, arith}
use Rattle.station_graph.specs.Classes.{merged}
use Rattle.contraction.proofs.EdgeLemmas.{merged_self}
use Rattle.contraction.proofs.AloneLemmas.{merged_write}
use Rattle.contraction.proofs.labels.follow_alone.Goals as goal

pub returns-else-label-i : goal.returns-else-label-i
returns-else-label-i c =
    let labels = c.args.labels.now in
    let p = c.args.places.now in
    let l = c.args.row.now in
    let i = c.args.i in
    let own : slice_index l i ≡ i = omega arith in
    merged_self labels (slice_index p i)
    ∙ ap (λ k. merged labels (slice_index p i) (slice_index p k)) (sym own)

pub returns-then-label-i : goal.returns-then-label-i
returns-then-label-i c =
    let p = c.args.places.now in
    sym (merged_write c.args.labels.now (slice_index p c.args.i) (slice_index p (slice_index c.args.row.now c.args.i))
    c.requires.first c.requires.alone c.requires.lower)
