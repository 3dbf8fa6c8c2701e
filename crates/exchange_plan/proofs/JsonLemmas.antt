-- Lists of values, and a plan's object, which has no float.
use Rattle.std.proofs.Common.{◌≡◌, ◌∙◌, Bool, true, false, List, [], ◌∷◌, map}
use Rattle.std.proofs.Common.{refl, ap, arith}
use Rattle.std.specs.Prelude.{◌||◌}
use Rattle.station_graph.specs.Diagram.{Diagram}
use Rattle.serde_json.specs.View.{items_of}
use Rattle.serde_json.specs.Written.{has_float, items_have_float}
use Rattle.exchange_plan.specs.declared.planned.PartnerBits.{PartnerBits}
use Rattle.exchange_plan.specs.declared.planned.BayPlan.{BayPlan}
use Rattle.exchange_plan.specs.PlanText.{partner_data, bay_data, plan_data}

partners_plain : (list : List PartnerBits) → items_have_float (items_of (map partner_data list)) ≡ false
partners_plain [] = refl
partners_plain (x ∷ xs) = partners_plain xs

bay_plain : (d : Diagram) (x : BayPlan) → has_float (bay_data d x) ≡ false
bay_plain d x = ap (λ (t : Bool). t || false) (partners_plain x.partners.items)

bays_plain : (d : Diagram) (plan : List BayPlan) → items_have_float (items_of (map (bay_data d) plan)) ≡ false
bays_plain d [] = refl
bays_plain d (x ∷ xs) =
    ap (λ (t : Bool). t || items_have_float (items_of (map (bay_data d) xs))) (bay_plain d x) ∙ bays_plain d xs

pub plan_plain : (d : Diagram) (plan : List BayPlan) → has_float (plan_data d plan) ≡ false
plan_plain d plan = ap (λ (t : Bool). t || false) (bays_plain d plan)
