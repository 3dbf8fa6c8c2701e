use Rattle.std.proofs.Common.{◌<◌, ◌+◌, ◌-◌, suc, ap, sym, ◌∙◌, subst, arith, add-one, get_or}
use Rattle.std.proofs.Math.Path.{ap₂}
use Rattle.decision_graphs.specs.Shapes.{shape_at}
use Rattle.decision_graphs.specs.LaidOut.{lists_in}
use Rattle.decision_graphs.proofs.GraphLemmas.{after_fits}
use Rattle.decision_graphs.proofs.HomeLemmas.{first_before, place_from_first}
use Rattle.decision_graphs.proofs.find.edge_at.Goals as goal

pub home_of-layer-requires-clause-node : goal.home_of-layer-requires-clause-node
home_of-layer-requires-clause-node c = (c.requires.edge.layer, (c.requires.edge.within, c.requires.edge.at))

pub overflow_sub-within : goal.overflow_sub-within
overflow_sub-within c =
    let e = c.requires.edge in
    first_before (lists_in c.args.graph.now) e.layer e.within c.home_of-layer.result c.args.node c.requires.whole.laid e.at
    (c.home_of-layer.ensures.home e.layer e.within e.at)

pub row_of-row-requires-clause-node : goal.row_of-row-requires-clause-node
row_of-row-requires-clause-node c =
    let g = lists_in c.args.graph.now in
    let e = c.requires.edge in
    subst (λ j. c.args.node - (shape_at g j).first < (shape_at g j).nodes)
    (sym (c.home_of-layer.ensures.home e.layer e.within e.at))
    (omega (arith, e.at.number, (c.requires.whole.laid.stands e.layer e.at.layer).first, e.at.within))

pub bounds-row-choice : goal.bounds-row-choice
bounds-row-choice c =
    let g = lists_in c.args.graph.now in
    let e = c.requires.edge in
    let home = c.home_of-layer.ensures.home e.layer e.within e.at in
    omega (arith, c.row_of-row.ensures.len, e.choice_in, ap (λ j. (shape_at g j).choices) home)

pub overflow_add-result : goal.overflow_add-result
overflow_add-result c =
    let g = lists_in c.args.graph.now in
    let e = c.requires.edge in
    let home = c.home_of-layer.ensures.home e.layer e.within e.at in
    let choice_in : c.args.choice < (shape_at g c.home_of-layer.result).choices =
    omega (arith, e.choice_in, ap (λ j. (shape_at g j).choices) home) in
    let edge = c.row_of-row.ensures.each c.args.choice choice_in ∙ ap (λ p. get_or g.edges p 0)
    (place_from_first g e.layer e.within c.home_of-layer.result c.args.node c.args.choice c.requires.whole.laid e.at
    home) in
    let next = c.first_node.ensures ∙ ap (λ i. (shape_at g i).first)
    (add-one c.home_of-layer.result ∙ ap suc home) in
    omega (
      arith,
      edge,
      next,
      c.requires.whole.edges e.layer e.within c.args.choice e.at.layer e.at.within e.choice_in,
      after_fits g (suc e.layer) c.requires.whole.laid c.requires.whole.range,
    )

pub returns : goal.returns
returns c j k at =
    let g = lists_in c.args.graph.now in
    let e = c.requires.edge in
    let home = c.home_of-layer.ensures.home e.layer e.within e.at in
    let here = c.home_of-layer.ensures.home j k at in
    let choice_in : c.args.choice < (shape_at g c.home_of-layer.result).choices =
    omega (arith, e.choice_in, ap (λ j. (shape_at g j).choices) home) in
    let edge = c.row_of-row.ensures.each c.args.choice choice_in ∙ ap (λ p. get_or g.edges p 0)
    (place_from_first g j k c.home_of-layer.result c.args.node c.args.choice c.requires.whole.laid at here) in
    let next = c.first_node.ensures ∙ ap (λ i. (shape_at g i).first)
    (add-one c.home_of-layer.result ∙ ap suc here) in
    ap₂ (λ a b. a + b) next edge
