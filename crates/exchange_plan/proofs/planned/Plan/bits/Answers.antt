use Rattle.std.proofs.Common.{◌≡◌, ℕ, List, sym, subst, MatchOption}
use Rattle.exchange_plan.specs.declared.planned.PartnerBits.{PartnerBits}
use Rattle.exchange_plan.specs.declared.planned.BayPlan.{BayPlan}
use Rattle.exchange_plan.specs.Planning.{Lists, ListsPartner}
use Rattle.exchange_plan.proofs.LookupLemmas.{found, not_planned}
use Rattle.exchange_plan.proofs.planned.Plan.bits.Goals as goal

pub returns-in-Some : goal.returns-in-Some
returns-in-Some c d is =
    let x : BayPlan = c.in-Some.plan.now in
    let p = c.args.partner.0 in
    let lists : Lists c.args.self.now c.args.bay.0 x =
    subst (λ (xs : List BayPlan). Lists xs c.args.bay.0 x) c.bays.ensures c.in-Some.ensures in
    let bits =
    subst (λ (ys : List PartnerBits). MatchOption c.bits_of.result ((n : ℕ) → ¬ ListsPartner ys p n)
    (ListsPartner ys p)) c.deref.ensures.value c.bits_of.ensures in
    found d c.args.self.now is c.args.bay.0 p x lists c.bits_of.result bits

pub returns-in-None : goal.returns-in-None
returns-in-None c d is =
    not_planned d c.args.self.now is c.args.bay.0 c.args.partner.0 (λ x lists. c.in-None.ensures x
    (subst (λ (xs : List BayPlan). Lists xs c.args.bay.0 x) (sym c.bays.ensures) lists))
