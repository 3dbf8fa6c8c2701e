use Rattle.std.proofs.Common.{◌≡◌, ◌≢◌, ◌∙◌, ◌+◌, ◌-◌, ◌<◌, suc, length, get_or, Some, sym, ap, arith}
use Rattle.std.proofs.lemmas.Option.{slice_get-get_or}
use Rattle.decision_graphs.specs.Label.{layer_at, step}
use Rattle.station_equations.specs.declared.goal.Goal.TheVariants.{Node}
use Rattle.station_equations.proofs.GraphFacts.{edge_place}
use Rattle.station_equations.proofs.rows.edge_goal.Goals as goal

pub bounds-next-edge : goal.bounds-next-edge
bounds-next-edge c =
    let p = edge_place c.args.graph.now c.args.layer c.args.node c.args.choice c.nodes-first.result.0
    c.nodes-first.result.1 c.edge-edge.result c.labels-fits.ensures.layered c.requires.layer c.requires.node
    c.requires.choice c.nodes-first.ensures.first c.nodes-first.ensures.count c.edge-edge.ensures in
    let same : suc c.args.layer ≡ length c.args.graph.now.layers =
    omega (arith, c.if-layer-layers.true, c.layers-layers.ensures.count) in
    omega (arith, p.within, p.last same, c.requires.next)

pub returns-then-layer-layers : goal.returns-then-layer-layers
returns-then-layer-layers c =
    let p = edge_place c.args.graph.now c.args.layer c.args.node c.args.choice c.nodes-first.result.0
    c.nodes-first.result.1 c.edge-edge.result c.labels-fits.ensures.layered c.requires.layer c.requires.node
    c.requires.choice c.nodes-first.ensures.first c.nodes-first.ensures.count c.edge-edge.ensures in
    let same : suc c.args.layer ≡ length c.args.graph.now.layers =
    omega (arith, c.if-layer-layers.true, c.layers-layers.ensures.count) in
    let within : step (layer_at c.args.graph.now.layers c.args.layer) c.args.node c.args.choice
    < length c.args.next.now = omega (arith, p.within, c.requires.next) in
    slice_get-get_or c.args.next.now (step (layer_at c.args.graph.now.layers c.args.layer) c.args.node c.args.choice)
    (Node 0) within ∙ ap (λ n. Some (get_or c.args.next.now n (Node 0))) (sym (p.last same))

pub overflow_sub-result : goal.overflow_sub-result
overflow_sub-result c =
    let p = edge_place c.args.graph.now c.args.layer c.args.node c.args.choice c.nodes-first.result.0
    c.nodes-first.result.1 c.edge-edge.result c.labels-fits.ensures.layered c.requires.layer c.requires.node
    c.requires.choice c.nodes-first.ensures.first c.nodes-first.ensures.count c.edge-edge.ensures in
    let differ : suc c.args.layer ≢ length c.args.graph.now.layers =
    λ e. c.if-layer-layers.false (omega (arith, e, c.layers-layers.ensures.count)) in
    omega (arith, p.inner differ)

pub bounds-next-edge-else-layer-layers : goal.bounds-next-edge-else-layer-layers
bounds-next-edge-else-layer-layers c =
    let p = edge_place c.args.graph.now c.args.layer c.args.node c.args.choice c.nodes-first.result.0
    c.nodes-first.result.1 c.edge-edge.result c.labels-fits.ensures.layered c.requires.layer c.requires.node
    c.requires.choice c.nodes-first.ensures.first c.nodes-first.ensures.count c.edge-edge.ensures in
    let differ : suc c.args.layer ≢ length c.args.graph.now.layers =
    λ e. c.if-layer-layers.false (omega (arith, e, c.layers-layers.ensures.count)) in
    omega (arith, p.within, p.inner differ, c.requires.next)

pub returns-else-layer-layers : goal.returns-else-layer-layers
returns-else-layer-layers c =
    let p = edge_place c.args.graph.now c.args.layer c.args.node c.args.choice c.nodes-first.result.0
    c.nodes-first.result.1 c.edge-edge.result c.labels-fits.ensures.layered c.requires.layer c.requires.node
    c.requires.choice c.nodes-first.ensures.first c.nodes-first.ensures.count c.edge-edge.ensures in
    let differ : suc c.args.layer ≢ length c.args.graph.now.layers =
    λ e. c.if-layer-layers.false (omega (arith, e, c.layers-layers.ensures.count)) in
    let within : step (layer_at c.args.graph.now.layers c.args.layer) c.args.node c.args.choice
    < length c.args.next.now = omega (arith, p.within, c.requires.next) in
    let place : step (layer_at c.args.graph.now.layers c.args.layer) c.args.node c.args.choice
    ≡ c.edge-edge.result - (c.nodes-first.result.0 + c.nodes-first.result.1) = omega (arith, p.inner differ) in
    slice_get-get_or c.args.next.now (step (layer_at c.args.graph.now.layers c.args.layer) c.args.node c.args.choice)
    (Node 0) within ∙ ap (λ n. Some (get_or c.args.next.now n (Node 0))) place
