use Rattle.exchange_plan.proofs.PlanningLemmas.{PartnersBelow}
use Rattle.exchange_plan.proofs.planning.partners_of.Given as goal

abbrev pub invariant-loop-number : goal.invariant-loop-number
invariant-loop-number l = PartnersBelow l.station l.bay.0 l.partners.items l.number
