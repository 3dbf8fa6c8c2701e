use Rattle.std.proofs.Common.{ℕ, sym, subst, ap, ◌∙◌}
use Rattle.station_graph.specs.Diagram.{Diagram}
use Rattle.central_rules.specs.Meaning.{bay_of}
use Rattle.bay_protocol.specs.declared.values.NodeEvent.TheVariants.{Cut as Cutting}
use Rattle.reservation_core.specs.Scene.{stops}
use Rattle.reservation_core.specs.Happens.{CutHappens, NodeSteps}
use Rattle.reservation_core.proofs.ForCode.{cut_after}
use Rattle.reservation_core.proofs.scene.Scene.cut.Goals as goal

pub returns-clause-step : goal.returns-clause-step
returns-clause-step g c =
    CutHappens.stops_between (sym c.runs.ensures ∙ c.if-not-runs.false)
    (subst (λ (b : ℕ). NodeSteps (g.J.Judge.meaning c.args.judge.now) (stops c.args.self.now c.args.switch.0) b
    (Cutting c.args.switch) c.stop.new.self c.in_ok-outcome.outcome)
    (c.bay_of-bay.ensures.is ∙ ap (λ (d : Diagram). bay_of d c.args.switch.0) (sym c.requires.same))
    (cut_after (g.J.Judge.meaning c.args.judge.now) c.args.self.now c.turn.new.self c.stop.new.self c.args.switch.0
    c.bay_of-bay.result.0 (Cutting c.args.switch) c.in_ok-outcome.outcome c.in_ok-outcome.ensures.step c.stop.ensures))
