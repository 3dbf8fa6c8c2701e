use Rattle.std.proofs.Common.{sym, subst}
use Rattle.std.specs.Prelude.{IfOk}
use Rattle.judge_pool.proofs.PoolLemmas.{if_ok}
use Rattle.step_graphs.specs.declared.step.Step.{Step}
use Rattle.step_graphs.specs.declared.step.Step.TheVariants.{OfSwitch, OfLink, OfTap, OfNothing}
use Rattle.step_graphs.specs.Letters.{IsLetterOf}
use Rattle.step_graphs.proofs.letters.step_value.Goals as goal

pub returns-in-OfSwitch-clause-letter : goal.returns-in-OfSwitch-clause-letter
returns-in-OfSwitch-clause-letter c =
    subst (λ (s : Step). IfOk c.switch_value.result (IsLetterOf c.args.station.now s c.args.closed))
    (sym c.in-OfSwitch.is) c.switch_value.ensures.letter

pub returns-in-OfLink-clause-letter : goal.returns-in-OfLink-clause-letter
returns-in-OfLink-clause-letter c =
    subst (λ (s : Step). IfOk c.link_value.result (IsLetterOf c.args.station.now s c.args.closed)) (sym c.in-OfLink.is)
    (if_ok c.link_value.result _ (IsLetterOf c.args.station.now (OfLink c.in-OfLink.i) c.args.closed)
    (λ x h. h c.args.closed) c.link_value.ensures.letter)

pub returns-in-OfTap-clause-letter : goal.returns-in-OfTap-clause-letter
returns-in-OfTap-clause-letter c =
    subst (λ (s : Step). IfOk c.tap_value.result (IsLetterOf c.args.station.now s c.args.closed)) (sym c.in-OfTap.is)
    (if_ok c.tap_value.result _ (IsLetterOf c.args.station.now (OfTap c.in-OfTap.i) c.args.closed)
    (λ x h. h c.args.closed) c.tap_value.ensures.letter)

pub returns-in-OfNothing-clause-letter : goal.returns-in-OfNothing-clause-letter
returns-in-OfNothing-clause-letter c =
    subst (λ (s : Step). IfOk c.nothing.result (IsLetterOf c.args.station.now s c.args.closed)) (sym c.in-OfNothing.is)
    (if_ok c.nothing.result _ (IsLetterOf c.args.station.now OfNothing c.args.closed)
    (λ x h. h c.args.station.now c.args.closed) c.nothing.ensures.letter)
