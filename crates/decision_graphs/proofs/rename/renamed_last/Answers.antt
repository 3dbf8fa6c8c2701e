use Rattle.std.proofs.Common.{◌≡◌, ◌≤◌, ◌<◌, ◌+◌, ◌-◌, ap, arith, length}
use Rattle.decision_graphs.specs.LaidOut.{lists_in}
use Rattle.decision_graphs.specs.Renaming.{last_base}
use Rattle.decision_graphs.specs.Shapes.{shape_at}
use Rattle.decision_graphs.proofs.RenameLemmas.{last_edge}
use Rattle.decision_graphs.proofs.ShapeLemmas.{layer_end}
use Rattle.decision_graphs.proofs.rename.renamed_last.Goals as goal

pub bounds-names-to : goal.bounds-names-to
bounds-names-to c =
    let g = lists_in c.args.graph.now in
    let j = c.args.layer in
    let lt : j < length g.shapes = omega (arith, c.requires.layer) in
    let top : length g.shapes - 1 ≡ c.args.layer = omega (arith, c.requires.layer) in
    let base = ap (λ n. (shape_at g n).base) top in
    let p = (shape_at g j).base + c.loop-place.place in
    let within = c.loop-place-test.true in
    let from : last_base g ≤ (shape_at g j).base + c.loop-place.place = omega (arith, base) in
    let below : (shape_at g j).base + c.loop-place.place < length g.edges =
    omega (arith, within, c.edges_of-edges.ensures.len, layer_end g j c.requires.whole.laid lt) in
    omega (
      arith,
      last_edge g p c.requires.whole from below,
      c.edges_of-edges.ensures.each c.loop-place.place (omega (arith, within, c.edges_of-edges.ensures.len)),
      c.requires.count,
    )
