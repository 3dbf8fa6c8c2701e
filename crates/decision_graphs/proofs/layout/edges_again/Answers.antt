use Rattle.std.proofs.Common.{ap, subst, ◌∙◌, length, get_or}
use Rattle.decision_graphs.specs.LaidOut.{lists_in, edges_in, AreCutEdges}
use Rattle.decision_graphs.specs.declared.layout.Edges.{Edges}
use Rattle.decision_graphs.proofs.CutLemmas.{cut_len, layer_read}
use Rattle.decision_graphs.proofs.layout.edges_again.Goals as goal

pub returns-in_ok-again-in-ByLayer-clause-len : goal.returns-in_ok-again-in-ByLayer-clause-len
returns-in_ok-again-in-ByLayer-clause-len c =
    let g = lists_in c.args.graph.now in
    let cut = subst (λ (e : Edges). AreCutEdges g.shapes e) c.in-ByLayer.is c.requires.cut in
    ap length (c.in_ok-again-in-ByLayer.ensures ∙ c.list_at.ensures)
    ∙ cut_len g.shapes c.in-ByLayer.layers.now c.args.layer cut c.requires.layer

pub returns-in_ok-again-in-ByLayer-clause-each : goal.returns-in_ok-again-in-ByLayer-clause-each
returns-in_ok-again-in-ByLayer-clause-each c p within =
    let g = lists_in c.args.graph.now in
    let cut = subst (λ (e : Edges). AreCutEdges g.shapes e) c.in-ByLayer.is c.requires.cut in
    ap (λ es. get_or es p 0) (c.in_ok-again-in-ByLayer.ensures ∙ c.list_at.ensures)
    ∙ layer_read g c.in-ByLayer.layers.now c.args.layer p (ap edges_in c.in-ByLayer.is) cut c.requires.laid
    c.requires.layer within
