use Rattle.std.proofs.Common.{◌≡◌, Bool, false, ap, sym, ◌∙◌}
use Rattle.serde_json.specs.Data.{Data}
use Rattle.serde_json.specs.Written.{has_float, compact_text}
use Rattle.std.proofs.lemmas.Result.{IfOk-weaker}
use Rattle.exchange_plan.specs.PlanText.{plan_json}
use Rattle.exchange_plan.proofs.JsonLemmas.{plan_plain}
use Rattle.exchange_plan.proofs.json.json_of.Goals as goal

pub returns : goal.returns
unfolding plan_json
returns c =
    IfOk-weaker c.to_string.result _ _ (λ s text. text
    (ap has_float c.in_ok-value.ensures ∙ plan_plain c.args.station.now c.args.bays.now)
    ∙ ap compact_text c.in_ok-value.ensures) c.to_string.ensures.text
