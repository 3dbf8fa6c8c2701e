use Rattle.std.proofs.Common.{◌≡◌, map, take}
use Rattle.serde_json.specs.View.{view}
use Rattle.exchange_plan.specs.PlanText.{bay_data}
use Rattle.exchange_plan.proofs.json.bay_values.Given as goal

abbrev pub invariant-loop-plan : goal.invariant-loop-plan
invariant-loop-plan l = map view l.list.items ≡ map (bay_data l.station) (take l.plan-index l.bays)
