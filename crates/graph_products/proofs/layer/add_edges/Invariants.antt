use Rattle.std.proofs.Common.{◌≡◌}
use Rattle.decision_graphs.specs.Label.{layer_at}
use Rattle.graph_products.specs.Layering.{AreLed}
use Rattle.graph_products.proofs.layer.add_edges.Given as goal

abbrev pub invariant-loop-c : goal.invariant-loop-c
invariant-loop-c l = record {
  height : l.next.height ≡ l.fn.next.height;
  width : l.next.width ≡ l.fn.next.width;
  led : AreLed (layer_at l.first.layers l.layer) (layer_at l.second.layers l.layer) l.fn.state l.rows l.c l.fn.next.keys
      l.fn.edges.items l.next.keys l.edges.items;
}
