use Rattle.std.proofs.Common.{◌≡◌, [], false, length, arith, refl, subst, ap, ◌∙◌}
use Rattle.std.proofs.Math.ListN.{replicate}
use Rattle.station_graph.specs.Diagram.{node_count}
use Rattle.station_graph.proofs.PartialEdges.{TouchingBelow, below_none}
use Rattle.denial_explain.specs.Listing.{AreLists}
use Rattle.denial_explain.proofs.ListingLemmas.{AreLists-none, lists_after_closed, lists_after_one_ended}
use Rattle.denial_explain.proofs.ListingLemmas.{lists_after_open, lists_after_link, lists_at_end}
use Rattle.denial_explain.proofs.neighbours.Neighbours.of.Goals as goal
use Rattle.denial_explain.proofs.neighbours.Neighbours.of.Goals.{then-closed+in-Some+in_ok-join}
use Rattle.denial_explain.proofs.neighbours.Neighbours.of.Goals.{then-closed+in_default, else-closed}

pub switches-init : goal.switches-init
switches-init c =
    let d = c.args.station.now in
    let count : c.in_ok-neighbours.neighbours ≡ replicate (node_count d) [] = c.in_ok-neighbours.ensures
    ∙ ap (λ n. replicate n []) c.node_count.ensures.count in
    rw count (AreLists-none (TouchingBelow false d c.args.joining.now 0 0) (node_count d)
    (below_none false d c.args.joining.now))

pub switches-preserved : goal.switches-preserved
switches-preserved c =
    let d = c.args.station.now in
    let v = c.args.joining.now in
    let station = c.node_count.ensures.station in
    elim c.if-closed.branch [
      | then-closed+in-Some+in_ok-join w ↦
          rw (w.neighbours-is, w.in_ok-join.ensures)
          (lists_after_closed d station v c.switches.neighbours c.switches.i w.switch-switch.result w.in-Some.second
          w.switch-switch.ensures.value w.in-Some.is w.if-closed.ensures c.switches.invariant)
      | then-closed+in_default w ↦
          rw w.neighbours-is
          (lists_after_one_ended d station v c.switches.neighbours c.switches.i w.switch-switch.result
          w.switch-switch.ensures.value w.in_default.is c.switches.invariant)
      | else-closed w ↦
          rw w.neighbours-is (lists_after_open d station v c.switches.neighbours c.switches.i w.if-closed.ensures
          c.switches.invariant)
    ]

pub links-init : goal.links-init
links-init c =
    let d = c.args.station.now in
    let at_end : c.switches.i ≡ length d.switches = omega arith in
    subst (λ i. AreLists (TouchingBelow false d c.args.joining.now i 0) (node_count d) c.switches.neighbours) at_end
    c.switches.invariant

pub links-preserved : goal.links-preserved
links-preserved c =
    let d = c.args.station.now in
    rw c.in_ok-join-2.ensures
    (lists_after_link d c.node_count.ensures.station c.args.joining.now c.links.neighbours (length d.switches) c.links.i
    c.link-link.result c.link-link.ensures.value c.links.invariant)

pub returns : goal.returns
returns c =
    let d = c.args.station.now in
    lists_at_end d c.node_count.ensures.station c.args.joining.now c.links.neighbours (length d.switches) c.links.i refl
    (omega arith) c.links.invariant
