use Rattle.std.proofs.Common.{◌+◌, ◌≤◌, length, map}
use Rattle.std.specs.List.{sum_by}
use Rattle.decision_graphs.specs.declared.finished.FinishedLayer.{FinishedLayer}
use Rattle.decision_graphs.specs.Finished.{AreFinished, finished}
use Rattle.graph_products.proofs.PrefixLemmas.{IsPrefix}
use Rattle.graph_products.proofs.WideLemmas.{IsSpent}
use Rattle.graph_products.proofs.product.product_of.Given as goal

abbrev pub invariant-steps : goal.invariant-steps
invariant-steps l = record {
  prefix : IsPrefix l.first l.second (map (λ v. v.items) l.steps) l.j (map finished l.layers.items) l.states.items;
  finished_so : AreFinished (length l.states.items) l.layers.items;
  nodes : sum_by (λ (l : FinishedLayer). l.nodes) l.layers.items + l.left ≤ l.budget;
  few : length l.states.items ≤ 4294967295;
  spent : IsSpent l.first l.second (map (λ v. v.items) l.steps) l.j l.left l.budget;
}
