use Rattle.std.proofs.Common.{◌<◌, ap, sym, ◌∙◌, arith, length}
use Rattle.std.proofs.lemmas.List.{length-map}
use Rattle.decision_graphs.specs.Label.{Layered, layer_at, step}
use Rattle.decision_graphs.specs.Shapes.{shape_at}
use Rattle.decision_graphs.specs.Whole.{layer_of}
use Rattle.decision_graphs.specs.LaidOut.{lists_in}
use Rattle.decision_graphs.proofs.ViewLemmas.{choices-view, rows-view, step-view}
use Rattle.decision_graphs.proofs.graph.Graph.row.Goals as goal

pub row_of-requires-clause-layer : goal.row_of-requires-clause-layer
row_of-requires-clause-layer c =
    let g = lists_in c.layout.result in
    omega (
      arith,
      c.requires.layer,
      length-map g.shapes (layer_of g.edges),
      ap (λ (g : Layered). length g.layers) c.layout.ensures.layered,
    )

pub row_of-requires-clause-node : goal.row_of-requires-clause-node
row_of-requires-clause-node c =
    let g = lists_in c.layout.result in
    omega (
      arith,
      c.requires.node,
      rows-view g c.args.layer,
      ap (λ (g : Layered). length (layer_at g.layers c.args.layer).rows) c.layout.ensures.layered,
    )

pub returns-clause-len : goal.returns-clause-len
returns-clause-len c =
    let g = lists_in c.layout.result in
    c.row_of.ensures.len ∙ (sym (choices-view g c.args.layer)
    ∙ ap (λ (g : Layered). (layer_at g.layers c.args.layer).choices) c.layout.ensures.layered)

pub returns-clause-each : goal.returns-clause-each
returns-clause-each c k choice =
    let g = lists_in c.layout.result in
    let within : c.args.node < (shape_at g c.args.layer).nodes =
    omega (
      arith,
      c.requires.node,
      rows-view g c.args.layer,
      ap (λ (g : Layered). length (layer_at g.layers c.args.layer).rows) c.layout.ensures.layered,
    ) in
    let in_row : k < (shape_at g c.args.layer).choices =
    omega (
      arith,
      choice,
      choices-view g c.args.layer,
      ap (λ (g : Layered). (layer_at g.layers c.args.layer).choices) c.layout.ensures.layered,
    ) in
    c.row_of.ensures.each k in_row ∙ (sym (step-view g c.args.layer c.args.node k within in_row)
    ∙ ap (λ (g : Layered). step (layer_at g.layers c.args.layer) c.args.node k) c.layout.ensures.layered)
