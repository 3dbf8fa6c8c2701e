use Rattle.std.proofs.Common.{refl, sym, ap, ◌∙◌}
use Rattle.bay_protocol.specs.Step.{BusyStep}
use Rattle.bay_node.proofs.node.Node.busy.Goals as goal

pub returns-then-round-collection-clause-step : goal.returns-then-round-collection-clause-step
returns-then-round-collection-clause-step c =
    BusyStep.other_round c.in-Some.collection (ap (λ s. s.collecting) (sym c.self.view_is) ∙ c.in-Some.is)
    (λ e. c.if-round-collection.true (sym e)) (record {
      state = refl;
      says = c.says-then-round-collection.ensures.outcome;
      sends = c.says-then-round-collection.ensures.frames;
    })

pub returns-clause-step : goal.returns-clause-step
returns-clause-step c =
    BusyStep.gives_up c.in-Some.collection (ap (λ s. s.collecting) (sym c.self.view_is) ∙ c.in-Some.is)
    (sym c.if-round-collection.false) (record {
      state = rw (← c.self.view_is) refl;
      says = refl;
      sends = rw (← c.self.view_is) c.in_ok-frames.ensures;
    })
