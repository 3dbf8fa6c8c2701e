use Rattle.std.proofs.Common.{arith, refl, sym, ap, ◌∙◌, length}
use Rattle.bay_protocol.specs.Step.{WithdrawStep}
use Rattle.bay_node.proofs.Ways.{if_ok, own_in}
use Rattle.bay_node.proofs.node.Node.withdraw.Goals as goal

pub returns-in-Some-clause-step : goal.returns-in-Some-clause-step
returns-in-Some-clause-step c =
    WithdrawStep.from_round c.in-Some.collection (ap (λ s. s.collecting) (sym c.self.view_is) ∙ c.in-Some.is) (record {
      state = rw (← c.self.view_is) refl;
      says = refl;
      sends = rw (← c.self.view_is) c.in_ok-frames.ensures;
    })

pub end-requires : goal.end-requires
end-requires c =
    let low =
    own_in c.args.station.now c.args.self.now.bay c.in-Some-granted.grant.op.switch.0 (c.requires.kept.granted
    c.in-Some-granted.grant (ap (λ s. s.granted) (sym c.self.view_is) ∙ c.in-Some-granted.is)).own in
    omega (arith, low, c.requires.words, ap (λ s. length s.words) c.self.view_is)

pub returns-in-Some-granted-clause-step : goal.returns-in-Some-granted-clause-step
returns-in-Some-granted-clause-step c =
    if_ok _ _ c.end.result c.end.ensures.step (λ out p. WithdrawStep.from_grant c.in-Some-granted.grant
    (ap (λ s. s.collecting) (sym c.self.view_is) ∙ c.in_default.is)
    (ap (λ s. s.granted) (sym c.self.view_is) ∙ c.in-Some-granted.is) p)
