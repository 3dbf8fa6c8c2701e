use Rattle.std.proofs.Common.{ap, ◌∙◌, sym, subst}
use Rattle.std.specs.Prelude.{OnOk}
use Rattle.ssd_read.specs.declared.types.Use.{Use}
use Rattle.ssd_read.specs.Types.{use_of_type}
use Rattle.ssd_read.specs.Elements.{element_name}
use Rattle.ssd_read.specs.Steps.{use_steps}
use Rattle.station_lines.specs.Lines.{AddsSteps}
use Rattle.station_lines.proofs.steps.push_use.Goals as goal

pub returns-in-Breaker : goal.returns-in-Breaker
returns-in-Breaker c = λ e part k.
    subst (λ (u : Use). OnOk c.push_breaker.result (AddsSteps c.args.station.now.node_paths c.args.word.now c.args.path.now
    (use_steps u e part c.args.nodes.now) c.args.text.now c.push_breaker.new.text))
    (sym c.in-Breaker.is ∙ (c.use_of.ensures ∙ ap use_of_type k)) (c.push_breaker.ensures part (element_name e))

pub returns-in-Disconnector : goal.returns-in-Disconnector
returns-in-Disconnector c = λ e part k.
    subst (λ (u : Use). OnOk c.push_disconnector.result (AddsSteps c.args.station.now.node_paths c.args.word.now c.args.path.now
    (use_steps u e part c.args.nodes.now) c.args.text.now c.push_disconnector.new.text))
    (sym c.in-Disconnector.is ∙ (c.use_of.ensures ∙ ap use_of_type k)) (c.push_disconnector.ensures part (element_name e))

pub returns-in-Infeed : goal.returns-in-Infeed
returns-in-Infeed c = λ e part k.
    subst (λ (u : Use). OnOk c.push_infeed.result (AddsSteps c.args.station.now.node_paths c.args.word.now c.args.path.now
    (use_steps u e part c.args.nodes.now) c.args.text.now c.push_infeed.new.text))
    (sym c.in-Infeed.is ∙ (c.use_of.ensures ∙ ap use_of_type k)) (c.push_infeed.ensures part (element_name e))

pub returns-in-Other : goal.returns-in-Other
returns-in-Other c = λ e part k.
    subst (λ (u : Use). OnOk c.push_other.result (AddsSteps c.args.station.now.node_paths c.args.word.now c.args.path.now
    (use_steps u e part c.args.nodes.now) c.args.text.now c.push_other.new.text))
    (sym c.in-Other.is ∙ (c.use_of.ensures ∙ ap use_of_type k)) (c.push_other.ensures e part k)
