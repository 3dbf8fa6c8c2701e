use Rattle.std.proofs.Common.{refl, sym, ap, ◌∙◌}
use Rattle.bay_protocol.specs.Step.{OverStep}
use Rattle.bay_node.proofs.node.Node.over.Goals as goal

pub returns-then-from-lock : goal.returns-then-from-lock
returns-then-from-lock c =
    OverStep.another_holder c.in-Some.lock (ap (λ s. s.lock) (sym c.self.view_is) ∙ c.in-Some.is)
    (λ e. c.if-from-lock.true (sym e)) (record {
      state = refl;
      says = c.says-then-from-lock.ensures.outcome;
      sends = c.says-then-from-lock.ensures.frames;
    })

pub returns-then-lock-round : goal.returns-then-lock-round
returns-then-lock-round c =
    OverStep.earlier_round c.in-Some.lock (ap (λ s. s.lock) (sym c.self.view_is) ∙ c.in-Some.is)
    (sym c.if-from-lock.false) c.if-lock-round.true (record {
      state = refl;
      says = c.says-then-lock-round.ensures.outcome;
      sends = c.says-then-lock-round.ensures.frames;
    })

pub returns : goal.returns
returns c =
    OverStep.unlocks_it c.in-Some.lock (ap (λ s. s.lock) (sym c.self.view_is) ∙ c.in-Some.is) (sym c.if-from-lock.false)
    c.if-lock-round.false
    (record { state = rw (← c.self.view_is) refl; says = c.says-2.ensures.outcome; sends = c.says-2.ensures.frames })
