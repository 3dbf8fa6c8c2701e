use Rattle.std.proofs.Common.{ap, subst, sym, ◌∙◌, get_or, List, ℕ, ◌<◌}
use Rattle.decision_graphs.specs.LaidOut.{lists_in, edges_in, AreCutEdges}
use Rattle.decision_graphs.specs.Placed.{ArePlaces}
use Rattle.decision_graphs.specs.Shapes.{shape_at, edge_count}
use Rattle.decision_graphs.specs.declared.layout.Edges.{Edges}
use Rattle.decision_graphs.proofs.CutLemmas.{cut_len, layer_read}
use Rattle.decision_graphs.proofs.ways.noted_at.Goals as goal

pub returns-in-ByLayer-clause-within : goal.returns-in-ByLayer-clause-within
returns-in-ByLayer-clause-within c t lt =
    let g = lists_in c.args.graph.now in
    let cut = subst (λ (e : Edges). AreCutEdges g.shapes e) c.in-ByLayer.is c.requires.cut in
    let len = cut_len g.shapes c.in-ByLayer.layers.now c.args.layer cut c.requires.layer in
    let at = subst (λ (xs : List ℕ). ArePlaces xs c.places.result.now) c.list_at.ensures c.places.ensures in
    subst (λ n. get_or c.places.result.now t 0 < n) len (at t lt).0

pub returns-in-ByLayer-clause-lead : goal.returns-in-ByLayer-clause-lead
returns-in-ByLayer-clause-lead c t lt =
    let g = lists_in c.args.graph.now in
    let cut = subst (λ (e : Edges). AreCutEdges g.shapes e) c.in-ByLayer.is c.requires.cut in
    let len = cut_len g.shapes c.in-ByLayer.layers.now c.args.layer cut c.requires.layer in
    let at = subst (λ (xs : List ℕ). ArePlaces xs c.places.result.now) c.list_at.ensures c.places.ensures in
    let within : get_or c.places.result.now t 0 < edge_count (shape_at g c.args.layer) =
    subst (λ n. get_or c.places.result.now t 0 < n) len (at t lt).0 in
    sym (layer_read g c.in-ByLayer.layers.now c.args.layer (get_or c.places.result.now t 0) (ap edges_in
    c.in-ByLayer.is) cut c.requires.laid c.requires.layer within) ∙ (at t lt).1
