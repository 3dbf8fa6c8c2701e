use Rattle.std.proofs.Common.{refl, sym, ap, ◌∙◌}
use Rattle.bay_protocol.specs.Step.{AnswerStep}
use Rattle.bay_node.proofs.Ways.{if_ok}
use Rattle.bay_node.proofs.node.Node.answer.Goals as goal

pub returns-then-collection-round-clause-step : goal.returns-then-collection-round-clause-step
returns-then-collection-round-clause-step g c =
    AnswerStep.other_round c.in-Some.collection (ap (λ s. s.collecting) (sym c.self.view_is) ∙ c.in-Some.is)
    c.if-collection-round.true (record {
      state = refl;
      says = c.says-then-collection-round.ensures.outcome;
      sends = c.says-then-collection-round.ensures.frames;
    })

pub returns-then-not-fits-clause-step : goal.returns-then-not-fits-clause-step
returns-then-not-fits-clause-step g c =
    AnswerStep.unfit c.in-Some.collection (ap (λ s. s.collecting) (sym c.self.view_is) ∙ c.in-Some.is)
    c.if-collection-round.false
    (rw (← c.self.view_is) (λ fits. absurd (cc (c.fits.ensures.1 fits, c.if-not-fits.true)))) (record {
      state = refl;
      says = c.says-then-not-fits.ensures.outcome;
      sends = c.says-then-not-fits.ensures.frames;
    })

pub returns-then-are_heard-clause-step : goal.returns-then-are_heard-clause-step
returns-then-are_heard-clause-step g c =
    if_ok _ _ c.decide.result c.decide.ensures.step (λ out step. AnswerStep.heard_last c.in-Some.collection
    (ap (λ s. s.collecting) (sym c.self.view_is) ∙ c.in-Some.is) c.if-collection-round.false
    (rw (← c.self.view_is) (c.fits.ensures.0 c.if-not-fits.false))
    (rw (← c.self.view_is, ← c.in_ok-with_one.ensures) (c.are_heard.ensures.0 c.if-are_heard.true)) (rw (
      ← c.in_ok-with_one.ensures,
      ← (c.requires.node.collecting c.in-Some.collection
          (ap (λ s. s.collecting) (sym c.self.view_is) ∙ c.in-Some.is)).newest,
    ) step))

pub returns-clause-step : goal.returns-clause-step
returns-clause-step g c =
    AnswerStep.heard_one c.in-Some.collection (ap (λ s. s.collecting) (sym c.self.view_is) ∙ c.in-Some.is)
    c.if-collection-round.false (rw (← c.self.view_is) (c.fits.ensures.0 c.if-not-fits.false)) (rw
    (← c.self.view_is, ← c.in_ok-with_one.ensures)
    (λ all. absurd (cc (c.are_heard.ensures.1 all, c.if-are_heard.false)))) (record {
      state = rw (c.in_ok-with_one.ensures, ← c.self.view_is) refl;
      says = c.says-2.ensures.outcome;
      sends = c.says-2.ensures.frames;
    })
