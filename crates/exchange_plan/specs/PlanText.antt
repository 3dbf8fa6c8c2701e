-- The text of a plan: one compact JSON object (RFC 8259) and LF.
use Rattle.std.specs.Prelude.{◌≡◌, ◌++◌, ℕ, List, map, codes, slice_index_or, []}
use Rattle.station_graph.specs.Diagram.{Diagram}
use Rattle.serde_json.specs.Data.{Data, number, unsigned, string, array, object, member, no_members}
use Rattle.serde_json.specs.View.{items_of}
use Rattle.serde_json.specs.Written.{compact_text}
use Rattle.exchange_plan.specs.declared.planned.PartnerBits.{PartnerBits}
use Rattle.exchange_plan.specs.declared.planned.BayPlan.{BayPlan}
use Rattle.exchange_plan.specs.Planning.{IsPlan}

-- The object of a partner: its number among the parts, and the size of its alphabet.
abbrev pub partner_data : PartnerBits → Data
partner_data x =
    object (member (codes "bay") (number (unsigned x.bay.0))
    (member (codes "bits") (number (unsigned x.bits)) no_members))

-- The object of a bay: its number among the parts, its partners, and its path.
abbrev pub bay_data : Diagram → BayPlan → Data
bay_data d x =
    object (member (codes "bay") (number (unsigned x.bay.0))
    (member (codes "partners") (array (items_of (map partner_data x.partners.items)))
    (member (codes "path") (string (slice_index_or d.part_paths x.bay.0 [])) no_members)))

-- The object of a plan: a list of its bays.
abbrev pub plan_data : Diagram → List BayPlan → Data
plan_data d plan = object (member (codes "bays") (array (items_of (map (bay_data d) plan))) no_members)

-- Its text, without spaces.
unfoldable pub plan_json : Diagram → List BayPlan → List ℕ
plan_json d plan = compact_text (plan_data d plan)

-- The text of the plan: that of its object, and LF.
abbrev pub plan_text : Diagram → List BayPlan → List ℕ
plan_text d plan = plan_json d plan ++ codes "\n"

-- The text is that of the station's plan.
abbrev pub IsPlanText : Diagram → List ℕ → Type 0
IsPlanText d text = (plan : List BayPlan) × IsPlan d plan × (text ≡ plan_text d plan)
