use Rattle.std.proofs.Common.{◌≡◌, ◌≢◌, ℕ, ◌<◌, slice_get, Some}
use Rattle.exchange_plan.specs.declared.planned.BayPlan.{BayPlan}
use Rattle.exchange_plan.proofs.planned.plan_of.Given as goal

abbrev pub invariant-loop-plan : goal.invariant-loop-plan
invariant-loop-plan l = (i : ℕ) (x : BayPlan) → i < l.plan-index → slice_get l.bays i ≡ Some x → x.bay.0 ≢ l.bay.0
