use Rattle.std.proofs.Common.{◌≡◌, ◌+◌, ℕ, List, sym, subst, arith}
use Rattle.station_graph.specs.Diagram.{node_count}
use Rattle.judge_intake.specs.SharedNodes.{IsSharedBySome}
use Rattle.judge_intake.proofs.NodesLemmas.{NodesBelow, nodes_none, nodes_skip, nodes_push, nodes_exact, shared_node}
use Rattle.judge_intake.proofs.needed.all_shared.Goals as goal
use Rattle.judge_intake.proofs.needed.all_shared.Goals.{then-some_shares+in_ok-push, else-some_shares}

pub loop-node-init : goal.loop-node-init
loop-node-init c = rw c.new-nodes.ensures (nodes_none (IsSharedBySome c.args.station.now))

pub loop-node-preserved : goal.loop-node-preserved
loop-node-preserved c =
    let Kind : ℕ → Type 0 = IsSharedBySome c.args.station.now in
    elim c.if-some_shares.branch [
      | then-some_shares+in_ok-push w ↦
          nodes_push Kind c.loop-node.node c.loop-node.nodes c.if-some_shares.nodes c.loop-node.invariant
          (c.some_shares.ensures.0 w.if-some_shares.true) (cc (w.nodes-is, w.in_ok-push.ensures.ok))
      | else-some_shares w ↦
          subst (λ (l : List ℕ). NodesBelow Kind (c.loop-node.node + 1) l) (sym w.nodes-is)
          (nodes_skip Kind c.loop-node.node c.loop-node.nodes c.loop-node.invariant
          (λ k. (let t = c.some_shares.ensures.1 k in cc (t, w.if-some_shares.false))))
    ]

pub returns : goal.returns
returns c =
    let d = c.args.station.now in
    let Kind : ℕ → Type 0 = IsSharedBySome d in
    let e : c.loop-node.node ≡ node_count d =
    omega (arith, c.node_count-node-end.ensures.count, c.loop-node-test.false, c.loop-node.auto.node-end) in
    nodes_exact Kind (node_count d) c.loop-node.nodes
    (subst (λ n. NodesBelow Kind n c.loop-node.nodes) e c.loop-node.invariant)
    (λ n h. shared_node d c.node_count-node-end.ensures.station n h)
