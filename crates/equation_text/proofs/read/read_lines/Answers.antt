use Rattle.std.proofs.Common.{◌≡◌, ◌∙◌, List, ℕ, map, length, ap, subst}
use Rattle.part_alphabets.specs.declared.fork.Target.{Target}
use Rattle.station_equations.specs.EquationLines.{PartLines, goal_count}
use Rattle.equation_text.specs.Reading.{MayBeStarts, MayBeOps, MayBeNodes, AreAllSteps}
use Rattle.equation_text.specs.Stops.{StopsAtStart, StopsAtOps, StopsAtNode}
use Rattle.equation_text.proofs.WordLemmas.{none_told, some_told}
use Rattle.equation_text.proofs.NodeFits.{not_empty, is_empty}
use Rattle.equation_text.proofs.TopLemmas.{sound, parts_may, formed}
use Rattle.equation_text.proofs.FormedLemmas.{left_starts, left_steps, left_ops, left_nodes, left_none, all_same}
use Rattle.equation_text.proofs.StopLemmas.{wrong_op, wrong_node, wrong_end}
use Rattle.equation_text.proofs.StopAtParts.{wrong_front, wrong_start}
use Rattle.equation_text.proofs.read.read_lines.Goals as goal

pub returns-then-not-passed : goal.returns-then-not-passed
returns-then-not-passed c = wrong_front c.args.station.now c.part_count-parts.ensures.station c.args.left.now.text.now
    c.read_front.new.left.text.now (c.in_ok-passed.ensures.stops c.if-not-passed.true)

pub returns-in_default : goal.returns-in_default
returns-in_default c =
    let l1 = c.read_front.new.left.text.now in
    let left = c.read_starts.new.left.text.now in
    let stop = none_told c.in_ok-starts_read.starts_read _ _ c.in_default.is c.in_ok-starts_read.ensures in
    wrong_start c.args.station.now c.part_count-parts.ensures.station c.args.left.now.text.now l1 left
    (c.in_ok-passed.ensures.front c.if-not-passed.false)
    (subst (λ n. StopsAtStart n l1 left) c.part_count.ensures.count stop)

pub returns-in_default-ops_read : goal.returns-in_default-ops_read
returns-in_default-ops_read c =
    let told1 =
    some_told c.in_ok-starts_read.starts_read _ _ c.in-Some.starts c.in-Some.is c.in_ok-starts_read.ensures in
    let may1 = subst (λ n. MayBeStarts n c.in-Some.starts.items) c.part_count.ensures.count told1.0 in
    let steps = subst (λ
    (ts : List Target). AreAllSteps c.args.station.now ts c.read_starts.new.left.text.now
    c.read_all_steps.new.left.text.now c.in_ok-parts.parts.items) c.deref.ensures.value c.in_ok-parts.ensures in
    let l3 = c.read_all_steps.new.left.text.now in
    let left = c.read_ops.new.left.text.now in
    let stop = none_told c.in_ok-ops_read.ops_read _ _ c.in_default-ops_read.is c.in_ok-ops_read.ensures in
    wrong_op c.args.station.now c.part_count-parts.ensures.station c.in-Some.starts.items c.in_ok-parts.parts.items
    c.args.left.now.text.now c.read_front.new.left.text.now c.read_starts.new.left.text.now
    c.read_all_steps.new.left.text.now (c.in_ok-passed.ensures.front c.if-not-passed.false) may1 told1.1 steps
    left (subst (λ n. StopsAtOps n l3 left) c.switch_count.ensures.count stop)

pub returns-in_default-nodes_read : goal.returns-in_default-nodes_read
returns-in_default-nodes_read c =
    let told1 =
    some_told c.in_ok-starts_read.starts_read _ _ c.in-Some.starts c.in-Some.is c.in_ok-starts_read.ensures in
    let may1 = subst (λ n. MayBeStarts n c.in-Some.starts.items) c.part_count.ensures.count told1.0 in
    let steps = subst (λ
    (ts : List Target). AreAllSteps c.args.station.now ts c.read_starts.new.left.text.now
    c.read_all_steps.new.left.text.now c.in_ok-parts.parts.items) c.deref.ensures.value c.in_ok-parts.ensures in
    let told3 =
    some_told c.in_ok-ops_read.ops_read _ _ c.in-Some-ops_read.ops c.in-Some-ops_read.is c.in_ok-ops_read.ensures in
    let may3 = subst (λ n. MayBeOps n c.in-Some-ops_read.ops.items) c.switch_count.ensures.count told3.0 in
    let counts : c.deref-3.result.now ≡ map goal_count c.in_ok-parts.parts.items = c.deref-3.ensures.value
    ∙ c.in_ok-counts.ensures ∙ ap (λ (ps : List PartLines). map goal_count ps) c.deref-2.ensures.value in
    let l4 = c.read_ops.new.left.text.now in
    let left = c.read_nodes.new.left.text.now in
    let stop = none_told c.in_ok-nodes_read.nodes_read _ _ c.in_default-nodes_read.is c.in_ok-nodes_read.ensures in
    let stop_here = subst (λ n. StopsAtNode n c.deref-3.result.now l4 left) c.switch_count-2.ensures.count stop in
    wrong_node c.args.station.now c.part_count-parts.ensures.station c.in-Some.starts.items c.in_ok-parts.parts.items
    c.args.left.now.text.now c.read_front.new.left.text.now c.read_starts.new.left.text.now
    c.read_all_steps.new.left.text.now (c.in_ok-passed.ensures.front c.if-not-passed.false) may1 told1.1 steps
    c.in-Some-ops_read.ops.items may3 l4 told3.1 left (subst (λ (cs : List ℕ). StopsAtNode
    (length c.args.station.now.switches) cs l4 left) counts stop_here)

pub returns-then-not-is_empty : goal.returns-then-not-is_empty
returns-then-not-is_empty c =
    let told1 =
    some_told c.in_ok-starts_read.starts_read _ _ c.in-Some.starts c.in-Some.is c.in_ok-starts_read.ensures in
    let may1 = subst (λ n. MayBeStarts n c.in-Some.starts.items) c.part_count.ensures.count told1.0 in
    let steps = subst (λ
    (ts : List Target). AreAllSteps c.args.station.now ts c.read_starts.new.left.text.now
    c.read_all_steps.new.left.text.now c.in_ok-parts.parts.items) c.deref.ensures.value c.in_ok-parts.ensures in
    let told3 =
    some_told c.in_ok-ops_read.ops_read _ _ c.in-Some-ops_read.ops c.in-Some-ops_read.is c.in_ok-ops_read.ensures in
    let may3 = subst (λ n. MayBeOps n c.in-Some-ops_read.ops.items) c.switch_count.ensures.count told3.0 in
    let counts : c.deref-3.result.now ≡ map goal_count c.in_ok-parts.parts.items = c.deref-3.ensures.value
    ∙ c.in_ok-counts.ensures ∙ ap (λ (ps : List PartLines). map goal_count ps) c.deref-2.ensures.value in
    let told4 =
    some_told c.in_ok-nodes_read.nodes_read _ _ c.in-Some-nodes_read.nodes c.in-Some-nodes_read.is
    c.in_ok-nodes_read.ensures in
    let nodes4 = subst
    (λ n. MayBeNodes n c.deref-3.result.now c.in-Some-nodes_read.nodes.items) c.switch_count-2.ensures.count
    told4.0 in
    let may4 = subst (λ (cs : List ℕ). MayBeNodes
    (length c.args.station.now.switches) cs c.in-Some-nodes_read.nodes.items) counts nodes4 in
    wrong_end c.args.station.now c.part_count-parts.ensures.station c.in-Some.starts.items c.in_ok-parts.parts.items
    c.args.left.now.text.now c.read_front.new.left.text.now c.read_starts.new.left.text.now
    c.read_all_steps.new.left.text.now (c.in_ok-passed.ensures.front c.if-not-passed.false) may1 told1.1 steps
    c.in-Some-ops_read.ops.items may3 c.read_ops.new.left.text.now told3.1 c.in-Some-nodes_read.nodes.items may4
    c.read_nodes.new.left.text.now told4.1 (not_empty c.read_nodes.new.left.text.now c.is_empty.result
    c.is_empty.ensures c.if-not-is_empty.true)

pub returns : goal.returns
returns c =
    let told1 =
    some_told c.in_ok-starts_read.starts_read _ _ c.in-Some.starts c.in-Some.is c.in_ok-starts_read.ensures in
    let may1 = subst (λ n. MayBeStarts n c.in-Some.starts.items) c.part_count.ensures.count told1.0 in
    let steps = subst (λ
    (ts : List Target). AreAllSteps c.args.station.now ts c.read_starts.new.left.text.now
    c.read_all_steps.new.left.text.now c.in_ok-parts.parts.items) c.deref.ensures.value c.in_ok-parts.ensures in
    let told3 =
    some_told c.in_ok-ops_read.ops_read _ _ c.in-Some-ops_read.ops c.in-Some-ops_read.is c.in_ok-ops_read.ensures in
    let may3 = subst (λ n. MayBeOps n c.in-Some-ops_read.ops.items) c.switch_count.ensures.count told3.0 in
    let told4 =
    some_told c.in_ok-nodes_read.nodes_read _ _ c.in-Some-nodes_read.nodes c.in-Some-nodes_read.is
    c.in_ok-nodes_read.ensures in
    let nodes4 = subst
    (λ n. MayBeNodes n c.deref-3.result.now c.in-Some-nodes_read.nodes.items) c.switch_count-2.ensures.count
    told4.0 in
    let counts : c.deref-3.result.now ≡ map goal_count c.in_ok-parts.parts.items = c.deref-3.ensures.value
    ∙ c.in_ok-counts.ensures ∙ ap (λ (ps : List PartLines). map goal_count ps) c.deref-2.ensures.value in
    record {
      parts_may =
          parts_may c.args.station.now c.in-Some.starts.items c.read_starts.new.left.text.now
          c.read_all_steps.new.left.text.now c.in_ok-parts.parts.items may1 steps;
      ops_may = may3;
      nodes_may = subst (λ (cs : List ℕ). MayBeNodes
          (length c.args.station.now.switches) cs c.in-Some-nodes_read.nodes.items) counts nodes4;
      is = sound c.args.station.now c.in-Some.starts.items c.in_ok-parts.parts.items c.in-Some-ops_read.ops.items
          c.in-Some-nodes_read.nodes.items c.args.left.now.text.now c.read_front.new.left.text.now
          c.read_starts.new.left.text.now c.read_all_steps.new.left.text.now c.read_ops.new.left.text.now
          c.read_nodes.new.left.text.now
          (c.in_ok-passed.ensures.front c.if-not-passed.false) told1.1 steps.starts_are steps.text told3.1 told4.1
          (is_empty c.read_nodes.new.left.text.now c.is_empty.result c.is_empty.ensures c.if-not-is_empty.false);
      once = λ e h.
          let f = formed c.args.station.now c.part_count-parts.ensures.station e h.are c.args.left.now.text.now h.is
          c.requires in
          let l1 = left_starts c.args.station.now c.part_count-parts.ensures.station e f c.args.left.now.text.now h.is
          c.read_front.new.left.text.now (c.in_ok-passed.ensures.front c.if-not-passed.false) in
          let l2 = left_steps c.args.station.now c.part_count-parts.ensures.station e f c.args.left.now.text.now h.is
          c.in-Some.starts.items c.read_front.new.left.text.now c.read_starts.new.left.text.now
          l1 may1 told1.1 in
          let l3 = left_ops c.args.station.now c.part_count-parts.ensures.station e f c.args.left.now.text.now h.is
          c.in-Some.starts.items c.in_ok-parts.parts.items c.read_starts.new.left.text.now
          c.read_all_steps.new.left.text.now l2.0 l2.1 steps in
          let l4 = left_nodes c.args.station.now c.part_count-parts.ensures.station e f c.args.left.now.text.now h.is
          c.in-Some-ops_read.ops.items c.read_all_steps.new.left.text.now
          c.read_ops.new.left.text.now l3.1 may3 told3.1 in
          let counts_e : c.deref-3.result.now ≡ map goal_count e.parts = c.deref-3.ensures.value
          ∙ c.in_ok-counts.ensures ∙ ap (λ (ps : List PartLines). map goal_count ps) (c.deref-2.ensures.value
          ∙ l3.0) in
          let may4 = subst (λ (cs : List ℕ). MayBeNodes
          (length c.args.station.now.switches) cs c.in-Some-nodes_read.nodes.items) counts_e nodes4 in
          let l5 = left_none c.args.station.now c.part_count-parts.ensures.station e f c.args.left.now.text.now h.is
          c.in-Some-nodes_read.nodes.items c.read_ops.new.left.text.now
          c.read_nodes.new.left.text.now l4.1 may4 told4.1 in
          all_same c.args.station.now c.part_count-parts.ensures.station e f c.args.left.now.text.now h.is
          c.in_ok-parts.parts.items c.in-Some-ops_read.ops.items c.in-Some-nodes_read.nodes.items l3.0
          l4.0 l5.0;
    }
