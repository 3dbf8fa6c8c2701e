use Rattle.std.proofs.Common.{◌≡◌, refl, subst, arith}
use Rattle.station_graph.specs.Diagram.{node_count}
use Rattle.short_equations.specs.Pairs.{AreOtherNodes}
use Rattle.short_equations.proofs.OtherNodes.{others_push, others_pass}
use Rattle.short_equations.proofs.pair.other_nodes.Goals as goal
use Rattle.short_equations.proofs.pair.other_nodes.Goals.{then-is_neither+in_ok-push, else-is_neither}

pub loop-n-preserved : goal.loop-n-preserved
loop-n-preserved c =
    let i = c.loop-n.n in
    let a = c.args.first.0 in
    let b = c.args.second.0 in
    let nodes = c.loop-n.nodes.items in
    elim c.if-is_neither.branch [
      | then-is_neither+in_ok-push w ↦
          rw (w.nodes-is, w.in_ok-push.ensures.items)
          (others_push i a b nodes (record { 0 = i }) refl c.loop-n.invariant
          (c.is_neither.ensures.0 w.if-is_neither.true))
      | else-is_neither w ↦
          rw w.nodes-is
          (others_pass i a b nodes c.loop-n.invariant
          (λ h. let yes = c.is_neither.ensures.1 h in let no_one = w.if-is_neither.false in cc))
    ]

pub returns : goal.returns
returns c =
    let d = c.args.station.now in
    let count = c.node_count-n-end.ensures.count in
    let e : c.loop-n.n ≡ node_count d = omega (arith, count) in
    subst (λ k. AreOtherNodes k c.args.first.0 c.args.second.0 c.loop-n.nodes.items) e c.loop-n.invariant
