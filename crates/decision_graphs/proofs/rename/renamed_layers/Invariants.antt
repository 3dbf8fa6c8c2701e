use Rattle.std.proofs.Common.{◌≡◌, take, get_or}
use Rattle.std.specs.List.{concat}
use Rattle.decision_graphs.specs.LaidOut.{lists_in, AreCutAs}
use Rattle.decision_graphs.specs.Renaming.{last_base, renamed_edge}
use Rattle.decision_graphs.proofs.CutLemmas.{EachEdge}
use Rattle.decision_graphs.proofs.rename.renamed_layers.Given as goal

abbrev pub invariant-loop-layer : goal.invariant-loop-layer
invariant-loop-layer l = record {
  cut : AreCutAs (take l.layer l.graph.shapes.now) l.layers.items;
  each : EachEdge (λ p to. to ≡ renamed_edge (last_base (lists_in l.graph)) l.names p
      (get_or (lists_in l.graph).edges p 0)) (concat l.layers.items);
}
