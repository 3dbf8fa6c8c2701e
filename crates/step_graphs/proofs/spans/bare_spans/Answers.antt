use Rattle.std.proofs.Common.{◌≡◌, ◌+◌, List, sym, subst, arith}
use Rattle.station_graph.specs.Diagram.{node_count}
use Rattle.step_graphs.specs.declared.spans.Span.{Span}
use Rattle.step_graphs.specs.Touching.{AreSpansUpto}
use Rattle.step_graphs.proofs.TouchLemmas.{spans_upto_none, spans_upto_more}
use Rattle.step_graphs.proofs.spans.bare_spans.Goals as goal

pub loop-node-init : goal.loop-node-init
loop-node-init c =
    subst (λ (l : List Span). AreSpansUpto c.args.station.now c.args.steps.now c.args.moved c.args.others 0 l 0)
    (sym c.new-list.ensures.items)
    (spans_upto_none c.args.station.now c.args.steps.now c.args.moved c.args.others 0)

pub loop-node-preserved : goal.loop-node-preserved
loop-node-preserved c =
    subst (λ (l : List Span). AreSpansUpto c.args.station.now c.args.steps.now c.args.moved c.args.others 0 l
    (c.loop-node.node + 1)) (sym c.in_ok-push.ensures.items)
    (spans_upto_more c.args.station.now c.args.steps.now c.args.moved c.args.others 0 c.loop-node.node
    c.loop-node.list.items c.bare_span-reach.result c.loop-node.invariant c.bare_span-reach.ensures)

pub returns : goal.returns
returns c =
    let done : c.loop-node.node ≡ node_count c.args.station.now =
    omega (arith, c.node_count-node-end.ensures.count, c.loop-node-test.false, c.loop-node.auto.node-end) in
    subst (λ n. AreSpansUpto c.args.station.now c.args.steps.now c.args.moved c.args.others 0 c.loop-node.list.items n) done
    c.loop-node.invariant
