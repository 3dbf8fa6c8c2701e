use Rattle.std.proofs.Common.{◌≡◌, subst, sym, ap, ◌∙◌, arith, slice_get}
use Rattle.std.proofs.lemmas.Option.{slice_get-get_or}
use Rattle.station_graph.specs.Diagram.{node_count}
use Rattle.judge_pool.specs.Graphs.{other_of}
use Rattle.judge_intake.proofs.OtherLemmas.{other_in}
use Rattle.step_graphs.specs.Touching.{AreSpansUpto}
use Rattle.step_graphs.proofs.TouchLemmas.{spans_step}
use Rattle.step_graphs.proofs.spans.touch_steps.Goals as goal

pub returns : goal.returns
returns c =
    let done : c.loop-i.i ≡ c.args.others = omega (arith, c.loop-i.auto.i-end, c.loop-i-test.false) in
    subst (λ n. AreSpansUpto c.args.station.now c.args.steps.now c.args.moved c.args.others n c.loop-i.spans.items
    (node_count c.args.station.now)) done c.loop-i.invariant

pub loop-i-preserved : goal.loop-i-preserved
loop-i-preserved c =
    let steps = c.args.steps.now in
    let is : c.from.result ≡ other_of 0 c.args.moved c.loop-i.i = c.from.ensures ∙ c.other_number.ensures in
    spans_step c.args.station.now steps c.args.moved c.args.others c.loop-i.i (node_count c.args.station.now)
    c.loop-i.spans.items c.touch_step.new.spans.items _
    (ap (slice_get steps) (sym is)
    ∙ slice_get-get_or steps c.from.result _
    (omega (
      arith,
      is,
      (other_in 0 c.args.moved c.args.others c.loop-i.i c.loop-i-test.true).1,
      c.requires.count,
    ))) c.loop-i.invariant c.touch_step.ensures
