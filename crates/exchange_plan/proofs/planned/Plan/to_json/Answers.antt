use Rattle.std.proofs.Common.{List, ap, ◌∙◌, sym, subst, ◌≡◌, Some, slice_get}
use Rattle.exchange_plan.specs.declared.planned.BayPlan.{BayPlan}
use Rattle.exchange_plan.proofs.LookupLemmas.{planned_in}
use Rattle.exchange_plan.proofs.planned.Plan.to_json.Goals as goal

pub json_of-requires : goal.json_of-requires
json_of-requires c i x at =
    planned_in c.args.station.now c.args.self.now c.requires i x
    (ap (λ (xs : List BayPlan). slice_get xs i) (sym c.bays.ensures) ∙ at)
