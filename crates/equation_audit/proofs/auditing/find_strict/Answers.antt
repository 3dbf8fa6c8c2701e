use Rattle.std.proofs.Common.{◌∙◌, sym, ap, subst, ◌^◌, arith, List, length}
use Rattle.ilk_base.specs.declared.words.SwitchId.{SwitchId}
use Rattle.equation_audit.specs.Equations.{Equation, AreOwn}
use Rattle.equation_audit.proofs.FindingLemmas.{never_strict}
use Rattle.equation_audit.proofs.auditing.find_strict.Goals as goal

pub try_position-requires-clause-own : goal.try_position-requires-clause-own
try_position-requires-clause-own g c =
    subst (λ (own : List SwitchId). AreOwn c.args.block.now.alternatives own) (sym c.deref-in-loop-number.ensures.value)
    (subst (λ (e : Equation). AreOwn e.alternatives c.block.inside.own.items) c.block.view_is c.block.invariant.are)

pub returns : goal.returns
returns g c =
    let count = c.position_count-number-end.ensures ∙ ap (λ (own : List SwitchId). 2 ^ length own)
    c.deref.ensures.value in
    never_strict c.args.station.now c.args.block.now c.block.inside.own.items
    (subst (λ (e : Equation). AreOwn e.alternatives c.block.inside.own.items) c.block.view_is c.block.invariant.are)
    c.requires.block.own
    (λ k lt. c.loop-number.invariant.tried k (omega (arith, lt, count, c.loop-number-test.false)))
