use Rattle.std.proofs.Common.{rules, sym, ap, ◌∙◌}
use Rattle.bay_protocol.specs.Step.{SenseStep}
use Rattle.bay_node.proofs.Ways.{if_ok}
use Rattle.bay_node.proofs.node.Node.sense.Goals as goal

pub returns-then-eq-clause-step : goal.returns-then-eq-clause-step
returns-then-eq-clause-step c =
    if_ok _ _ c.end.result c.end.ensures.step (λ out p. SenseStep.finishes c.in-Some.grant
    (record {
      granted = ap (λ s. s.granted) (sym c.self.view_is) ∙ c.in-Some.is;
      switch = c.if-grant-switch.true;
      wanted = search rules;
    }) (rw c.if-grant-switch.true at p))
