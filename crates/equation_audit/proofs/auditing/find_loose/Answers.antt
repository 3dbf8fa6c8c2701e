use Rattle.std.proofs.Common.{◌∙◌, sym, ap, subst, ◌^◌, arith, List, below_more, length}
use Rattle.std.specs.Prelude.{replicate, false}
use Rattle.ilk_base.specs.declared.words.SwitchId.{SwitchId}
use Rattle.equation_audit.specs.Equations.{Equation, AreOwn, OwnBelow}
use Rattle.equation_audit.specs.Positions.{placed, AllAmong}
use Rattle.equation_audit.specs.Findings.{NoneLooseBy}
use Rattle.equation_audit.proofs.OwnLemmas.{own_below}
use Rattle.equation_audit.proofs.FindingLemmas.{never_loose}
use Rattle.equation_audit.proofs.auditing.find_loose.Goals as goal

pub position-requires : goal.position-requires
position-requires g c =
    let n = length c.args.station.now.switches in
    let below = subst (λ (e : Equation). OwnBelow (length c.args.station.now.switches) e.alternatives)
    (sym c.block.view_is) c.requires.block.own in
    subst (AllAmong (length c.args.station.now.switches)) (sym c.deref-in-loop-number.ensures.value)
    (own_below (length c.args.station.now.switches) c.block.inside.alternatives.items c.block.inside.own.items
    c.block.invariant.are below)

pub loop-number-preserved : goal.loop-number-preserved
loop-number-preserved g c =
    let all_open = replicate (length c.args.station.now.switches) false in
    let none = rw c.in_default.is at c.in_ok-loose.ensures.none in
    below_more _ _ c.loop-number.invariant (subst (NoneLooseBy c.args.station.now c.args.block.now)
    (c.in_ok-vector.ensures.placed
    ∙ ap (λ (own : List SwitchId). placed (replicate (length c.args.station.now.switches) false) own
    c.loop-number.number) c.deref-in-loop-number.ensures.value) none)

pub returns : goal.returns
returns g c =
    let count = c.position_count-number-end.ensures ∙ ap (λ (own : List SwitchId). 2 ^ length own)
    c.deref.ensures.value in
    never_loose c.args.station.now c.args.block.now c.block.inside.own.items
    (subst (λ (e : Equation). AreOwn e.alternatives c.block.inside.own.items) c.block.view_is c.block.invariant.are)
    c.requires.block.own
    (λ k lt. c.loop-number.invariant k (omega (arith, lt, count, c.loop-number-test.false)))
