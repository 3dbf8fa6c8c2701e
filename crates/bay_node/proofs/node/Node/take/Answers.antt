use Rattle.bay_protocol.specs.Step.{TakeStep}
use Rattle.bay_node.proofs.Ways.{if_ok}
use Rattle.bay_node.proofs.node.Node.take.Goals as goal

pub returns-in-Ok-clause-step : goal.returns-in-Ok-clause-step
returns-in-Ok-clause-step g c =
    if_ok _ _ c.step.result c.step.ensures.step
    (λ out step. TakeStep.a_frame c.in-Ok.frame c.in-Ok.ensures.fits c.in-Ok.ensures.lawful c.in-Ok.ensures.row step)
