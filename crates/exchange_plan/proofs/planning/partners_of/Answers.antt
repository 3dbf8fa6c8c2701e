use Rattle.std.proofs.Common.{◌≡◌, ◌+◌, List, Vec, Global, refl, sym, ap, ◌∙◌, subst, arith}
use Rattle.exchange_plan.specs.declared.planned.PartnerBits.{PartnerBits}
use Rattle.exchange_plan.proofs.PlanningLemmas.{PartnersBelow, partners_more, partners_pass, partners_all, has_size}
use Rattle.exchange_plan.proofs.planning.partners_of.Goals.{then-is_partner+in_ok-push, else-is_partner}
use Rattle.exchange_plan.proofs.planning.partners_of.Goals as goal

pub loop-number-preserved : goal.loop-number-preserved
loop-number-preserved c =
    let d = c.args.station.now in
    let b = c.args.bay.0 in
    let n = c.loop-number.number in
    let old : List PartnerBits = c.loop-number.partners.items in
    elim c.if-is_partner.branch [
      | then-is_partner+in_ok-push w ↦
          let items = ap (λ (v : Vec PartnerBits Global). v.items) w.partners-is ∙ w.in_ok-push.ensures.items in
          let size =
          has_size d c.args.judge.now.diagram c.args.judge.now.alphabets c.parts-parts.result.now n w.size.result
          c.requires.station c.parts-parts.ensures.alphabets c.parts-parts.ensures.value (omega (
            arith,
            c.loop-number-test.true,
            c.loop-number.auto.number-end,
            c.part_count-number-end.ensures.count,
          )) w.size.ensures.size in
          subst (λ (xs : List PartnerBits). PartnersBelow d b xs (n + 1)) (sym items)
          (partners_more d b old n (record { bay = record { 0 = n }; bits = w.size.result }) c.loop-number.invariant
          refl (c.is_partner.ensures.partner w.if-is_partner.true) size)
      | else-is_partner w ↦
          subst (λ (v : Vec PartnerBits Global). PartnersBelow d b v.items (n + 1)) (sym w.partners-is)
          (partners_pass d b old n c.loop-number.invariant (c.is_partner.ensures.other w.if-is_partner.false))
    ]

pub returns : goal.returns
returns c =
    partners_all c.args.station.now c.args.bay.0 c.loop-number.partners.items c.loop-number.number
    c.loop-number.invariant
    (omega (arith, c.loop-number-test.false, c.loop-number.auto.number-end, c.part_count-number-end.ensures.count))
