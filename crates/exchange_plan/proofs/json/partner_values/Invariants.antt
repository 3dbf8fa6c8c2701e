use Rattle.std.proofs.Common.{◌≡◌, map, take}
use Rattle.serde_json.specs.View.{view}
use Rattle.exchange_plan.specs.PlanText.{partner_data}
use Rattle.exchange_plan.proofs.json.partner_values.Given as goal

abbrev pub invariant-loop-partner : goal.invariant-loop-partner
invariant-loop-partner l = map view l.list.items ≡ map partner_data (take l.partner-index l.partners)
