use Rattle.std.proofs.Common.{◌≡◌, ◌≢◌, ◌∙◌, sym, ap, subst, length, arith}
use Rattle.std.specs.Prelude.{slice_set}
use Rattle.std.proofs.lemmas.List.{length-set}
use Rattle.ilk_base.specs.declared.words.Rule.{Rule}
use Rattle.switching_orders.specs.declared.ruling.Step.TheVariants as step
use Rattle.station_graph.specs.CentralRules.{carried_out}
use Rattle.switching_orders.specs.OrderRuling.{IsRuling, Rules}
use Rattle.switching_orders.proofs.RulingLemmas.{each-next, after-next, stopped, all_passed, accepted, is_operation}
use Rattle.switching_orders.proofs.judging.judge_order.Goals as goal

denied_stops : (rule : Rule) → step.Denied rule ≢ step.Ok
denied_stops rule e = cc

idle_stops : step.Idle ≢ step.Ok
idle_stops e = cc

pub rule-requires-clause-op : goal.rule-requires-clause-op
rule-requires-clause-op c = is_operation c.args.station.now c.args.order.now c.loop-i.i c.step-op.result c.requires.order
    c.step-op.ensures

pub set-requires : goal.set-requires
set-requires c = omega (
  arith,
  is_operation c.args.station.now c.args.order.now c.loop-i.i c.step-op.result c.requires.order c.step-op.ensures,
  c.loop-i.invariant.count,
)

pub returns-in-Denied-clause-accepted : goal.returns-in-Denied-clause-accepted
returns-in-Denied-clause-accepted c = accepted c.args.station.now c.args.start.now c.args.order.now _
    (subst (IsRuling c.args.station.now c.args.start.now c.args.order.now) (sym c.stop.ensures)
    (stopped c.args.station.now c.args.start.now c.loop-i.vector c.args.order.now c.loop-i.i c.step-op.result
    (step.Denied c.in-Denied.rule) (omega (arith, c.len-i-end.ensures.count)) c.step-op.ensures c.loop-i.invariant.is
    c.loop-i.invariant.each (subst (Rules c.args.station.now c.loop-i.vector c.step-op.result) c.in-Denied.is
    c.in_ok-rule.ensures) (denied_stops c.in-Denied.rule)))

pub returns-in-Idle-clause-accepted : goal.returns-in-Idle-clause-accepted
returns-in-Idle-clause-accepted c = accepted c.args.station.now c.args.start.now c.args.order.now _
    (subst (IsRuling c.args.station.now c.args.start.now c.args.order.now) (sym c.stop-in-Idle.ensures)
    (stopped c.args.station.now c.args.start.now c.loop-i.vector c.args.order.now c.loop-i.i c.step-op.result step.Idle
    (omega (arith, c.len-i-end.ensures.count)) c.step-op.ensures c.loop-i.invariant.is c.loop-i.invariant.each
    (subst (Rules c.args.station.now c.loop-i.vector c.step-op.result) c.in-Idle.is c.in_ok-rule.ensures) idle_stops))

pub returns-in-Denied-clause-ruling : goal.returns-in-Denied-clause-ruling
returns-in-Denied-clause-ruling c =
    subst (IsRuling c.args.station.now c.args.start.now c.args.order.now) (sym c.stop.ensures)
    (stopped c.args.station.now c.args.start.now c.loop-i.vector c.args.order.now c.loop-i.i c.step-op.result
    (step.Denied c.in-Denied.rule) (omega (arith, c.len-i-end.ensures.count)) c.step-op.ensures c.loop-i.invariant.is
    c.loop-i.invariant.each (subst (Rules c.args.station.now c.loop-i.vector c.step-op.result) c.in-Denied.is
    c.in_ok-rule.ensures) (denied_stops c.in-Denied.rule))

pub returns-in-Idle-clause-ruling : goal.returns-in-Idle-clause-ruling
returns-in-Idle-clause-ruling c =
    subst (IsRuling c.args.station.now c.args.start.now c.args.order.now) (sym c.stop-in-Idle.ensures)
    (stopped c.args.station.now c.args.start.now c.loop-i.vector c.args.order.now c.loop-i.i c.step-op.result step.Idle
    (omega (arith, c.len-i-end.ensures.count)) c.step-op.ensures c.loop-i.invariant.is c.loop-i.invariant.each
    (subst (Rules c.args.station.now c.loop-i.vector c.step-op.result) c.in-Idle.is c.in_ok-rule.ensures) idle_stops)

pub loop-i-preserved : goal.loop-i-preserved
loop-i-preserved c =
    let is_moved : c.set.new.self ≡ carried_out c.loop-i.vector c.step-op.result = c.set.ensures
    ∙ ap (slice_set c.loop-i.vector c.step-op.result.switch.0) c.wanted_end.ensures in
    record {
      count = ap length c.set.ensures ∙ length-set c.loop-i.vector _ _ ∙ c.loop-i.invariant.count;
      is = is_moved ∙ after-next c.args.start.now c.loop-i.vector c.args.order.now c.loop-i.i c.step-op.result
          c.step-op.ensures c.loop-i.invariant.is;
      each = each-next c.args.station.now c.args.start.now c.loop-i.vector c.args.order.now c.loop-i.i c.step-op.result
          c.step-op.ensures c.loop-i.invariant.is c.loop-i.invariant.each
          (subst (Rules c.args.station.now c.loop-i.vector c.step-op.result) c.in-Ok.is c.in_ok-rule.ensures);
    }

pub returns-clause-ruling : goal.returns-clause-ruling
returns-clause-ruling c = all_passed c.args.station.now c.args.start.now c.args.order.now c.len.result c.loop-i.i
    c.len.ensures.count (omega (arith, c.len-i-end.ensures.count)) c.loop-i.invariant.each

pub returns-clause-accepted : goal.returns-clause-accepted
returns-clause-accepted c = accepted c.args.station.now c.args.start.now c.args.order.now _
    (all_passed c.args.station.now c.args.start.now c.args.order.now c.len.result c.loop-i.i c.len.ensures.count
    (omega (arith, c.len-i-end.ensures.count)) c.loop-i.invariant.each)
