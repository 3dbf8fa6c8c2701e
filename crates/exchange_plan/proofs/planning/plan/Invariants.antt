use Rattle.exchange_plan.proofs.PlanningLemmas.{BaysBelow}
use Rattle.exchange_plan.proofs.planning.plan.Given as goal

abbrev pub invariant-loop-number : goal.invariant-loop-number
invariant-loop-number l = BaysBelow l.station l.bays.items l.number
