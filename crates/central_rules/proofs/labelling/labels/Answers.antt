use Rattle.std.proofs.Common.{◌≡◌, length, arith, refl, sym, subst, ◌∙◌}
use Rattle.station_graph.specs.Diagram.{node_count}
use Rattle.station_graph.specs.Connection.{Touching}
use Rattle.station_graph.specs.Classes.{LabelsLeast}
use Rattle.station_graph.proofs.ClassesLemmas.{KeepsLabels, KeepsLabels-alone, LabelsLeast-from_keeps}
use Rattle.station_graph.proofs.PartialEdges.{TouchingBelow, below_none, after_closed, after_one_ended, after_open}
use Rattle.station_graph.proofs.PartialEdges.{after_link, after_passed_link, at_the_end}
use Rattle.central_rules.proofs.labelling.labels.Goals as goal
use Rattle.central_rules.proofs.labelling.labels.Goals.{then-closed+in-Some, then-closed+in_default, else-closed}
use Rattle.central_rules.proofs.labelling.labels.Goals.{then-counts, else-counts}

pub switches-init : goal.switches-init
switches-init c =
    let d = c.args.station.now in
    KeepsLabels-alone (TouchingBelow c.args.bonds_only d c.args.vector.now 0 0) (node_count d) c.in_ok-classes.classes
    (c.in_ok-classes.ensures.count ∙ c.node_count.ensures.count) (λ k h. c.in_ok-classes.ensures.alone k
    (omega (arith, c.in_ok-classes.ensures.count, c.node_count.ensures.count)))
    (below_none c.args.bonds_only d c.args.vector.now)

pub switches-preserved : goal.switches-preserved
switches-preserved c =
    let d = c.args.station.now in
    let v = c.args.vector.now in
    let bonds = c.args.bonds_only in
    let station = c.node_count.ensures.station in
    elim c.if-closed.branch [
      | then-closed+in-Some w ↦
          rw (w.classes-is, w.merge.ensures)
          (after_closed bonds d station v c.switches.classes c.switches.i w.switch-switch.result w.in-Some.second
          w.switch-switch.ensures.value w.in-Some.is w.if-closed.ensures c.switches.invariant)
      | then-closed+in_default w ↦
          rw w.classes-is
          (after_one_ended bonds d station v c.switches.classes c.switches.i w.switch-switch.result
          w.switch-switch.ensures.value w.in_default.is c.switches.invariant)
      | else-closed w ↦
          rw w.classes-is (after_open bonds d station v c.switches.classes c.switches.i w.if-closed.ensures
          c.switches.invariant)
    ]

pub links-init : goal.links-init
links-init c =
    let d = c.args.station.now in
    let at_end : c.switches.i ≡ length d.switches = omega arith in
    subst (λ i. KeepsLabels (TouchingBelow c.args.bonds_only d c.args.vector.now i 0) (node_count d) c.switches.classes)
    at_end c.switches.invariant

pub links-preserved : goal.links-preserved
links-preserved c =
    let d = c.args.station.now in
    let v = c.args.vector.now in
    let bonds = c.args.bonds_only in
    let station = c.node_count.ensures.station in
    elim c.if-counts.branch [
      | then-counts w ↦
          rw (w.classes-is, w.merge-then-counts.ensures)
          (after_link bonds d station v c.links.classes (length d.switches) c.links.i c.link-link.result
          c.link-link.ensures.value (c.counts.ensures.0 w.if-counts.true) c.links.invariant)
      | else-counts w ↦
          rw w.classes-is
          (after_passed_link bonds d station v c.links.classes (length d.switches) c.links.i c.link-link.result
          c.link-link.ensures.value (λ h. let yes = c.counts.ensures.1 h in cc) c.links.invariant)
    ]

pub returns : goal.returns
returns c =
    let d = c.args.station.now in
    let v = c.args.vector.now in
    let bonds = c.args.bonds_only in
    let ended : KeepsLabels (Touching bonds d v) (node_count d) c.links.classes =
    at_the_end bonds d c.node_count.ensures.station v c.links.classes (length d.switches) c.links.i refl (omega arith)
    c.links.invariant in
    subst (λ l. LabelsLeast (Touching bonds d v) (node_count d) l) (sym c.into_labels.ensures)
    (LabelsLeast-from_keeps (Touching bonds d v) (node_count d) c.links.classes ended)
