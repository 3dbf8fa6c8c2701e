use Rattle.std.proofs.Common.{refl, sym, ap, ◌∙◌}
use Rattle.bay_protocol.specs.Step.{CutStep}
use Rattle.bay_node.proofs.Ways.{if_ok}
use Rattle.bay_node.proofs.node.Node.cut.Goals as goal
use Rattle.bay_node.proofs.node.Node.cut.Goals.{in-Some+else-grant-switch, in_default}

pub returns-then-grant-switch-clause-step : goal.returns-then-grant-switch-clause-step
returns-then-grant-switch-clause-step c =
    if_ok _ _ c.end.result c.end.ensures.step (λ out p. CutStep.stops c.in-Some.grant
    (ap (λ s. s.granted) (sym c.self.view_is) ∙ c.in-Some.is) c.if-grant-switch.true (rw c.if-grant-switch.true at p))

pub returns-clause-step : goal.returns-clause-step
returns-clause-step c =
    elim c.match-self.branch [
      | in-Some+else-grant-switch w ↦
          CutStep.other_switch w.in-Some.grant (ap (λ s. s.granted) (sym c.self.view_is) ∙ w.in-Some.is)
          w.if-grant-switch.false
          (record { state = refl; says = c.says.ensures.outcome; sends = c.says.ensures.frames })
      | in_default w ↦
          CutStep.no_grant (ap (λ s. s.granted) (sym c.self.view_is) ∙ w.in_default.is)
          (record { state = refl; says = c.says.ensures.outcome; sends = c.says.ensures.frames })
    ]
