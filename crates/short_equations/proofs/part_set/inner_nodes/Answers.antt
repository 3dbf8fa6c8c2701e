use Rattle.std.proofs.Common.{◌<◌, arith}
use Rattle.station_graph.specs.Diagram.{node_count}
use Rattle.short_equations.proofs.InnerLemmas.{inner_pushed, small_pushed}
use Rattle.short_equations.proofs.part_set.inner_nodes.Goals as goal
use Rattle.short_equations.proofs.part_set.inner_nodes.Goals.{then-is_gone+in_ok-push, else-is_gone}

pub loop-n-preserved : goal.loop-n-preserved
loop-n-preserved c =
    let d = c.args.station.now in
    let i = c.loop-n.n in
    let nodes = c.loop-n.nodes.items in
    let count = c.node_count-n-end.ensures.count in
    let test = c.loop-n-test.true in
    let low : i < node_count d = omega (arith, count, test) in
    elim c.if-is_gone.branch [
      | then-is_gone+in_ok-push w ↦
          rw (w.nodes-is, w.in_ok-push.ensures.items) (
            inner_pushed d c.args.set nodes (record { 0 = i }) c.loop-n.invariant.0 low
                (c.is_gone.ensures w.if-is_gone.true),
            small_pushed d c.node_count-n-end.ensures.station nodes (record { 0 = i }) c.loop-n.invariant.1 low,
          )
      | else-is_gone w ↦ rw w.nodes-is c.loop-n.invariant
    ]
