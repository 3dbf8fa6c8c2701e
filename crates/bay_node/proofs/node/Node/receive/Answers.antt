use Rattle.std.proofs.Common.{ap, ◌∙◌}
use Rattle.bay_protocol.specs.Step.{FrameStep}
use Rattle.bay_node.proofs.Ways.{if_ok}
use Rattle.bay_node.proofs.node.Node.receive.Goals as goal

pub returns-in-Reserve-clause-step : goal.returns-in-Reserve-clause-step
returns-in-Reserve-clause-step g c =
    if_ok _ _ c.reserve.result c.reserve.ensures.step (λ out step. FrameStep.reserve
    (record {
      here = c.if-frame-self.false ∙ ap (λ s. s.bay) c.self.view_is;
      other = rw (← c.self.view_is) (c.is_other.ensures.0 c.if-not-is_other.false);
    }) c.in-Reserve.is step)

pub returns-in-Answer-clause-step : goal.returns-in-Answer-clause-step
returns-in-Answer-clause-step g c =
    if_ok _ _ c.answer.result c.answer.ensures.step (λ out step. FrameStep.answer c.in-Answer.summary
    (record {
      here = c.if-frame-self.false ∙ ap (λ s. s.bay) c.self.view_is;
      other = rw (← c.self.view_is) (c.is_other.ensures.0 c.if-not-is_other.false);
    }) c.in-Answer.is step)

pub returns-in-Busy-clause-step : goal.returns-in-Busy-clause-step
returns-in-Busy-clause-step g c =
    if_ok _ _ c.busy.result c.busy.ensures.step (λ out step. FrameStep.busy c.in-Busy.holder c.in-Busy.holder_round
    (record {
      here = c.if-frame-self.false ∙ ap (λ s. s.bay) c.self.view_is;
      other = rw (← c.self.view_is) (c.is_other.ensures.0 c.if-not-is_other.false);
    }) c.in-Busy.is step)

pub returns-in-Over-clause-step : goal.returns-in-Over-clause-step
returns-in-Over-clause-step g c =
    FrameStep.over (record {
      here = c.if-frame-self.false ∙ ap (λ s. s.bay) c.self.view_is;
      other = rw (← c.self.view_is) (c.is_other.ensures.0 c.if-not-is_other.false);
    }) c.in-Over.is c.over.ensures
