use Rattle.std.proofs.Common.{◌≡◌, ◌+◌, ◌<◌, suc, length, ap, sym, ◌∙◌, subst, arith}
use Rattle.decision_graphs.specs.Label.{LayerFits, layer_at}
use Rattle.graph_products.proofs.ListLemmas.{layer_fits, size_in, size_end}
use Rattle.graph_products.proofs.layer.nodes_behind.Goals as goal

pub returns-then-layer-layers : goal.returns-then-layer-layers
returns-then-layer-layers c =
    let g = c.args.graph.now in
    let j = c.args.layer in
    let last : suc j ≡ length g.layers = omega (arith, c.if-layer-layers.true, c.layers-layers.ensures.count) in
    subst (λ n. LayerFits n (layer_at g.layers j))
    (size_end g.labels g.layers (suc j) last ∙ sym c.labels-labels.ensures.count)
    (layer_fits g.labels g.layers j c.labels-labels.ensures.layered c.requires)

pub returns : goal.returns
returns c =
    let g = c.args.graph.now in
    let j = c.args.layer in
    let next : suc j ≡ j + 1 = omega arith in
    let lt : suc j < length g.layers =
    omega (arith, c.requires, c.if-layer-layers.false, c.layers-layers.ensures.count) in
    subst (λ n. LayerFits n (layer_at g.layers j))
    (size_in g.labels g.layers (suc j) lt ∙ (ap (λ n. length (layer_at g.layers n).rows) next
    ∙ sym c.nodes-nodes.ensures.count))
    (layer_fits g.labels g.layers j c.labels-labels.ensures.layered c.requires)
