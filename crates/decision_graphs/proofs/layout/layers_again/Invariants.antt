use Rattle.std.proofs.Common.{◌≡◌, take, get_or}
use Rattle.std.specs.List.{concat}
use Rattle.decision_graphs.specs.LaidOut.{lists_in, AreCutAs}
use Rattle.decision_graphs.proofs.CutLemmas.{EachEdge}
use Rattle.decision_graphs.proofs.layout.layers_again.Given as goal

abbrev pub invariant-loop-layer : goal.invariant-loop-layer
invariant-loop-layer l = record {
  cut : AreCutAs (take l.layer l.graph.shapes.now) l.layers.items;
  each : EachEdge (λ p to. to ≡ get_or (lists_in l.graph).edges p 0) (concat l.layers.items);
}
