use Rattle.std.proofs.Common.{◌↔◌, ℕ, Contains}
use Rattle.std.proofs.lemmas.Result.{IfOk-weaker}
use Rattle.station_graph.specs.Diagram.{node_count}
use Rattle.station_graph.specs.Connection.{Bonded}
use Rattle.denial_explain.specs.Ways.{AllBelow}
use Rattle.denial_explain.specs.SameClass.{IsClassOf}
use Rattle.denial_explain.proofs.RuleReasons.{class_bonded, class_below}
use Rattle.denial_explain.proofs.explaining.bonded_nodes.Goals as goal

pub returns-clause-exact : goal.returns-clause-exact
returns-clause-exact c =
    let d = c.args.station.now in
    let v = c.args.vector.now in
    let labels = c.in_ok-labels.labels in
    IfOk-weaker c.same_class.result (IsClassOf labels c.args.node.0) (λ l. (n : ℕ) →
    Contains l n ↔ Bonded d v c.args.node.0 n)
    (λ l h. class_bonded d v labels c.args.node.0 l c.is_station.ensures c.in_ok-labels.ensures c.requires.node h)
    c.same_class.ensures

pub returns-clause-nodes : goal.returns-clause-nodes
returns-clause-nodes c =
    let labels = c.in_ok-labels.labels in
    IfOk-weaker c.same_class.result (IsClassOf labels c.args.node.0) (AllBelow (node_count c.args.station.now))
    (λ l h. class_below (node_count c.args.station.now) labels c.args.node.0 l c.in_ok-labels.ensures.len h)
    c.same_class.ensures
