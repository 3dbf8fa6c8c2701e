use Rattle.std.proofs.Common.{◌*◌, ◌≤◌, length}
use Rattle.decision_graphs.specs.Label.{LayerFits, layer_at}
use Rattle.graph_products.specs.Layering.{AreEdges}
use Rattle.graph_products.proofs.layer.next_layer.Given as goal

abbrev pub invariant-states : goal.invariant-states
invariant-states l = record {
  first_edges : LayerFits l.next.height (layer_at l.first.layers l.layer);
  second_edges : LayerFits l.next.width (layer_at l.second.layers l.layer);
  few : length l.next.keys ≤ l.k * length l.rows;
  edges : AreEdges (layer_at l.first.layers l.layer) (layer_at l.second.layers l.layer) l.states l.rows l.next.keys
      l.edges.items (l.k * length l.rows);
}
