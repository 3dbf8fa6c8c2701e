use Rattle.std.proofs.Common.{refl, sym, ap, ◌∙◌, ◌∷◌, [], ℕ}
use Rattle.bay_protocol.specs.State.{MayLock}
use Rattle.bay_protocol.specs.Sends.{frame}
use Rattle.bay_protocol.specs.Step.{ReserveStep}
use Rattle.bay_node.proofs.Ways.{if_ok}
use Rattle.bay_node.proofs.node.Node.reserve.Goals as goal
use Rattle.bay_frames.specs.declared.frame.Body.TheVariants.{Busy}
use Rattle.bay_node.proofs.node.Node.reserve.Goals.{in-Some-lock+else-lock-from+else-round-lock, in_default-lock}

pub returns-in-Some-clause-step : goal.returns-in-Some-clause-step
returns-in-Some-clause-step g c =
    if_ok _ _ c.sends.result c.sends.ensures (λ out p. ReserveStep.busy_itself c.in-Some.holder_round
    (sym c.in-Some.ensures) (record {
      state = refl;
      says = p.0;
      sends =
          p.1
          ∙ ap (λ x. x ∷ [])
          (c.frame_to.ensures
          ∙ ap (λ (x : ℕ). frame c.args.self.now.bay c.args.from.0 c.args.round
          (Busy (record { 0 = x }) c.in-Some.holder_round)) (ap (λ s. s.bay) c.self.view_is));
    }))

pub returns-then-lock-from-clause-step : goal.returns-then-lock-from-clause-step
returns-then-lock-from-clause-step g c =
    if_ok _ _ c.sends-then-lock-from.result c.sends-then-lock-from.ensures (λ out p. ReserveStep.busy_locked
    c.in-Some-lock.lock (sym c.in_default.ensures) (ap (λ s. s.lock) (sym c.self.view_is) ∙ c.in-Some-lock.is)
    c.if-lock-from.true
    (record { state = refl; says = p.0; sends = p.1 ∙ ap (λ x. x ∷ []) c.frame_to-then-lock-from.ensures }))

pub returns-then-round-lock-clause-step : goal.returns-then-round-lock-clause-step
returns-then-round-lock-clause-step g c =
    ReserveStep.late c.in-Some-lock.lock (sym c.in_default.ensures)
    (ap (λ s. s.lock) (sym c.self.view_is) ∙ c.in-Some-lock.is) c.if-lock-from.false c.if-round-lock.true
    (record { state = refl; says = c.says.ensures.outcome; sends = c.says.ensures.frames })

pub returns-clause-step : goal.returns-clause-step
returns-clause-step g c =
    let may : MayLock c.args.self.now.lock c.args.from.0 c.args.round = elim c.match-self.branch [
      | in-Some-lock+else-lock-from+else-round-lock w ↦
          rw (ap (λ s. s.lock) (sym c.self.view_is) ∙ w.in-Some-lock.is) (w.if-lock-from.false, w.if-round-lock.false)
      | in_default-lock w ↦ rw (ap (λ s. s.lock) (sym c.self.view_is) ∙ w.in_default-lock.is) tt
    ] in
    if_ok _ _ c.answer_to.result c.answer_to.ensures.step
    (λ out p. ReserveStep.answers (sym c.in_default.ensures) may p)
