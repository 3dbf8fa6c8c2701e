use Rattle.std.proofs.Common.{◌≡◌, ◌+◌, List, Vec, Global, refl, sym, ap, ◌∙◌, subst, arith}
use Rattle.exchange_plan.specs.declared.planned.BayPlan.{BayPlan}
use Rattle.exchange_plan.specs.Planning.{IsPlan}
use Rattle.exchange_plan.proofs.PlanningLemmas.{BaysBelow, bays_more, bays_pass, bays_all}
use Rattle.exchange_plan.proofs.planning.plan.Goals.{then-is_bay+in_ok-partners+in_ok-push, else-is_bay}
use Rattle.exchange_plan.proofs.planning.plan.Goals as goal

pub loop-number-preserved : goal.loop-number-preserved
loop-number-preserved c =
    let d = c.args.station.now in
    let n = c.loop-number.number in
    let old : List BayPlan = c.loop-number.bays.items in
    elim c.if-is_bay.branch [
      | then-is_bay+in_ok-partners+in_ok-push w ↦
          let items = ap (λ (v : Vec BayPlan Global). v.items) w.bays-is ∙ w.in_ok-push.ensures.items in
          subst (λ (xs : List BayPlan). BaysBelow d xs (n + 1)) (sym items)
          (bays_more d old n (record { bay = record { 0 = n }; partners = w.in_ok-partners.partners })
          c.loop-number.invariant refl (c.is_bay.ensures.bay w.if-is_bay.true) w.in_ok-partners.ensures)
      | else-is_bay w ↦
          subst (λ (v : Vec BayPlan Global). BaysBelow d v.items (n + 1)) (sym w.bays-is)
          (bays_pass d old n c.loop-number.invariant (c.is_bay.ensures.other w.if-is_bay.false))
    ]

pub returns : goal.returns
returns c =
    let all =
    bays_all c.args.station.now c.loop-number.bays.items c.loop-number.number c.loop-number.invariant
    (omega (arith, c.loop-number-test.false, c.loop-number.auto.number-end, c.part_count-number-end.ensures.count)) in
    subst (λ (xs : List BayPlan). IsPlan c.args.station.now xs) (sym c.from_bays.ensures) all
