use Rattle.std.proofs.Common.{◌≡◌, ◌+◌, ℕ, List, sym, subst, arith}
use Rattle.station_graph.specs.Diagram.{node_count}
use Rattle.judge_pool.specs.Needing.{BayNeeds}
use Rattle.judge_intake.proofs.NodesLemmas.{NodesBelow, nodes_none, nodes_skip, nodes_push, nodes_exact, are_nodes}
use Rattle.judge_intake.proofs.NodesLemmas.{bay_node}
use Rattle.judge_intake.proofs.needed.bay_nodes.Goals as goal
use Rattle.judge_intake.proofs.needed.bay_nodes.Goals.{then-is_needed_own+in_ok-push, else-is_needed_own}

pub loop-node-init : goal.loop-node-init
loop-node-init c =
    rw c.new-nodes.ensures (nodes_none (BayNeeds c.args.station.now c.args.bay.0 c.args.first c.args.count))

pub loop-node-preserved : goal.loop-node-preserved
loop-node-preserved c =
    let Kind : ℕ → Type 0 = BayNeeds c.args.station.now c.args.bay.0 c.args.first c.args.count in
    elim c.if-is_needed_own.branch [
      | then-is_needed_own+in_ok-push w ↦
          nodes_push Kind c.loop-node.node c.loop-node.nodes c.if-is_needed_own.nodes c.loop-node.invariant
          (c.is_needed_own.ensures.0 w.if-is_needed_own.true) (cc (w.nodes-is, w.in_ok-push.ensures.ok))
      | else-is_needed_own w ↦
          subst (λ (l : List ℕ). NodesBelow Kind (c.loop-node.node + 1) l) (sym w.nodes-is)
          (nodes_skip Kind c.loop-node.node c.loop-node.nodes c.loop-node.invariant
          (λ k. (let t = c.is_needed_own.ensures.1 k in cc (t, w.if-is_needed_own.false))))
    ]

pub returns-clause-exact : goal.returns-clause-exact
returns-clause-exact c =
    let d = c.args.station.now in
    let Kind : ℕ → Type 0 = BayNeeds d c.args.bay.0 c.args.first c.args.count in
    let e : c.loop-node.node ≡ node_count d =
    omega (arith, c.node_count-node-end.ensures.count, c.loop-node-test.false, c.loop-node.auto.node-end) in
    nodes_exact Kind (node_count d) c.loop-node.nodes
    (subst (λ n. NodesBelow Kind n c.loop-node.nodes) e c.loop-node.invariant)
    (λ n h. bay_node d c.node_count-node-end.ensures.station c.args.bay.0 c.args.first c.args.count n h)

pub returns-clause-nodes : goal.returns-clause-nodes
returns-clause-nodes c =
    let d = c.args.station.now in
    let Kind : ℕ → Type 0 = BayNeeds d c.args.bay.0 c.args.first c.args.count in
    let e : c.loop-node.node ≡ node_count d =
    omega (arith, c.node_count-node-end.ensures.count, c.loop-node-test.false, c.loop-node.auto.node-end) in
    are_nodes Kind d c.loop-node.nodes c.node_count-node-end.ensures.station
    (subst (λ n. NodesBelow Kind n c.loop-node.nodes) e c.loop-node.invariant)
