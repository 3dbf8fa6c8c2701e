use Rattle.std.proofs.Common.{sym, ap, subst, ◌∙◌, ◌≡◌, ◌∷◌, [], Some, None}
use Rattle.bay_protocol.specs.State.{State, collects}
use Rattle.bay_protocol.specs.Output.{turn}
use Rattle.bay_protocol.specs.Step.{Deciding, TickStep}
use Rattle.bay_node.proofs.Ways.{if_ok, collected_same}
use Rattle.bay_node.proofs.node.Node.tick.Goals as goal

pub returns-in-Some-clause-step : goal.returns-in-Some-clause-step
returns-in-Some-clause-step g c =
    let has : c.args.self.now.collecting ≡ Some c.in-Some.collection =
    ap (λ s. s.collecting) (sym c.self.view_is) ∙ (sym c.take.ensures.value ∙ c.in-Some.is) in
    let same : collects c.args.self.now c.in-Some.collection.round c.in-Some.collection ≡ c.args.self.now =
    collected_same c.args.self.now c.in-Some.collection has
    (c.requires.node.collecting c.in-Some.collection has).newest in
    if_ok _ _ c.decide_or_keep.result c.decide_or_keep.ensures.step
    (λ out step. TickStep.decides c.in-Some.collection has
    (subst (λ (s : State). Deciding (g.J.Judge.meaning c.args.judge.now) c.args.station.now s c.in-Some.collection
    (turn c.decide_or_keep.new.self out)) same
    (subst (λ (s : State). Deciding (g.J.Judge.meaning c.args.judge.now) c.args.station.now
    (collects s c.in-Some.collection.round c.in-Some.collection) c.in-Some.collection
    (turn c.decide_or_keep.new.self out)) c.self.view_is step)))

pub returns-in-Some-lock-clause-step : goal.returns-in-Some-lock-clause-step
returns-in-Some-lock-clause-step g c =
    let none : c.self.inside.collecting ≡ None = sym c.take.ensures.value ∙ c.in_default.is in
    if_ok _ _ c.sends.result c.sends.ensures (λ out p. TickStep.asks c.in-Some-lock.held
    (ap (λ s. s.collecting) (sym c.self.view_is) ∙ none) (ap (λ s. s.lock) (sym c.self.view_is) ∙ c.in-Some-lock.is)
    (record {
      state = rw (c.take.ensures.after, ← none) c.self.view_is;
      says = p.0;
      sends = p.1 ∙ ap (λ x. x ∷ []) (rw (← c.self.view_is) c.frame_to.ensures);
    }))
