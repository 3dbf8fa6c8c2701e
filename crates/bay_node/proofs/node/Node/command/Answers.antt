use Rattle.std.proofs.Common.{rules, ◌≢◌, slice_get, refl, sym, ap, ◌∙◌}
use Rattle.std.proofs.lemmas.Option.{same_Some}
use Rattle.bay_protocol.specs.Step.{CommandStep, IsThere}
use Rattle.bay_node.proofs.Ways.{if_ok}
use Rattle.bay_node.proofs.node.Node.command.Goals as goal

pub returns-in-Some-clause-step : goal.returns-in-Some-clause-step
returns-in-Some-clause-step g c =
    CommandStep.round_under_way c.in-Some.round (sym c.in-Some.ensures)
    (record { state = refl; says = c.says.ensures.outcome; sends = c.says.ensures.frames })

pub returns-in-Some-lock-clause-step : goal.returns-in-Some-lock-clause-step
returns-in-Some-lock-clause-step g c =
    CommandStep.held c.in-Some-lock.lock (sym c.in_default.ensures)
    (ap (λ s. s.lock) (sym c.self.view_is) ∙ c.in-Some-lock.is)
    (record { state = refl; says = c.says-in-Some-lock.ensures.outcome; sends = c.says-in-Some-lock.ensures.frames })

pub returns-clause-step : goal.returns-clause-step
returns-clause-step g c =
    let differ : c.word.result ≢ c.end_word.result = search rules in
    let elsewhere : ¬ IsThere c.args.self.now c.args.op =
    λ is. differ (same_Some _ _
    (sym c.word.ensures ∙ (ap (λ s. slice_get s.words c.args.op.switch.0) c.self.view_is ∙ is))
    ∙ sym c.end_word.ensures) in
    if_ok _ _ c.open.result c.open.ensures.step (λ out step. CommandStep.opens_round
    (record
    { idle = sym c.in_default.ensures; unlocked = ap (λ s. s.lock) (sym c.self.view_is) ∙ c.in_default-lock.is })
    elsewhere (search rules) step)
