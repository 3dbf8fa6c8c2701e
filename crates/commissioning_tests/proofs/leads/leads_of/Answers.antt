use Rattle.std.proofs.Common.{◌≡◌, ◌⊎◌, ℕ, List, subst, arith}
use Rattle.commissioning_tests.specs.Shared.{StandsBefore}
use Rattle.commissioning_tests.proofs.LeadLemmas.{leads_more, leads_all}
use Rattle.commissioning_tests.proofs.leads.leads_of.Goals as goal

pub loop-part-preserved : goal.loop-part-preserved
loop-part-preserved c =
    let lead = c.in_ok-lead.lead in
    let is : (lead ≡ c.loop-part.part) ⊎ StandsBefore c.args.station.now c.loop-part.leads.items lead c.loop-part.part =
    subst (λ (l : List ℕ). (lead ≡ c.loop-part.part) ⊎ StandsBefore c.args.station.now l lead c.loop-part.part)
    c.deref.ensures.value c.in_ok-lead.ensures in
    rw c.in_ok-push.ensures.items (leads_more c.args.station.now c.loop-part.leads.items c.loop-part.part lead
    c.loop-part.invariant is)

pub returns : goal.returns
returns c =
    leads_all c.args.station.now c.loop-part.leads.items c.loop-part.part c.loop-part.invariant
    (omega (arith, c.loop-part-test.false, c.loop-part.auto.part-end, c.part_count-part-end.ensures.count))
