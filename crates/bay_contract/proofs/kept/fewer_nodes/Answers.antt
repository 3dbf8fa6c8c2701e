use Rattle.std.proofs.Common.{◌≡◌, ◌+◌, ◌<◌, ℕ, List, length, slice_index, sym, subst, arith}
use Rattle.part_alphabets.specs.Layers.{IsKept}
use Rattle.bay_contract.proofs.KeptLemmas.{FewerBelow, fewer_skip, fewer_push, fewer_exact, fewer_nodes_are}
use Rattle.bay_contract.proofs.kept.fewer_nodes.Goals as goal
use Rattle.bay_contract.proofs.kept.fewer_nodes.Goals.{then-matters+in_ok-push, else-matters}

pub loop-i-preserved : goal.loop-i-preserved
loop-i-preserved c =
    let node : c.get-node.result.0 ≡ slice_index c.args.nodes.now c.loop-i.i = c.get-node.ensures in
    let i_in : c.loop-i.i < length c.args.nodes.now = omega (arith, c.loop-i-test.true, c.len-i-end.ensures) in
    elim c.if-matters.branch [
      | then-matters+in_ok-push w ↦
          fewer_push c.args.station.now c.args.part.0 c.args.bound c.args.nodes.now c.loop-i.i c.loop-i.fewer
          c.loop-i.invariant c.if-matters.fewer c.requires.rising.rises i_in
          (subst (λ n. IsKept c.args.station.now c.args.part.0 c.args.bound n) node
          (c.matters.ensures.0 w.if-matters.true))
          (cc (w.fewer-is, w.in_ok-push.ensures.ok, node))
      | else-matters w ↦
          subst (λ (l : List ℕ). FewerBelow c.args.station.now c.args.part.0 c.args.bound c.args.nodes.now
          (c.loop-i.i + 1) l) (sym w.fewer-is)
          (fewer_skip c.args.station.now c.args.part.0 c.args.bound c.args.nodes.now c.loop-i.i c.loop-i.fewer
          c.loop-i.invariant
          (λ k. let t = c.matters.ensures.1 (subst (λ n. IsKept c.args.station.now c.args.part.0 c.args.bound n)
          (sym node) k) in cc (t, w.if-matters.false)))
    ]

pub returns-clause-exact : goal.returns-clause-exact
returns-clause-exact c =
    fewer_exact c.args.station.now c.args.part.0 c.args.bound c.args.nodes.now c.loop-i.i c.loop-i.fewer
    c.loop-i.invariant (omega
    (arith, c.loop-i-test.false, c.len-i-end.ensures)) c.args.first c.requires.later c.requires.nodes

pub returns-clause-nodes : goal.returns-clause-nodes
returns-clause-nodes c =
    fewer_nodes_are c.args.station.now c.args.part.0 c.args.bound c.args.nodes.now c.loop-i.i c.loop-i.fewer
    c.loop-i.invariant (omega (arith, c.loop-i.auto.i-end, c.len-i-end.ensures)) c.requires.rising
