use Rattle.std.proofs.Common.{subst}
use Rattle.ilk_base.specs.declared.words.Op.{Op}
use Rattle.release_dependence.specs.Depends.{DependsOn}
use Rattle.dependence_search.specs.Turning.{IsTurning}
use Rattle.commissioning_tests.proofs.CoverLemmas.{same_op}
use Rattle.commissioning_tests.proofs.cover.cover_turn.Goals as goal

pub returns-then-not-may_turn-clause-shown : goal.returns-then-not-may_turn-clause-shown
returns-then-not-may_turn-clause-shown c op at here dep = absurd (c.may_turn.ensures c.if-not-may_turn.true op at dep)

pub returns-in_ok-add_both-in-Some-clause-shown : goal.returns-in_ok-add_both-in-Some-clause-shown
returns-in_ok-add_both-in-Some-clause-shown c op at here dep =
    let turning = rw c.in-Some.is at c.in_ok-closed.ensures in
    c.in_ok-add_both-in-Some.ensures.shown op at
    (subst (λ (x : Op). IsTurning c.args.walked.now.station.now x c.args.switch.0 c.in-Some.closed.items)
    (same_op c.args.walked.now.operations.now c.args.walked.now.number c.operation_of-op.result op
    c.operation_of-op.ensures at) turning.turn)

pub returns-in-None-clause-shown : goal.returns-in-None-clause-shown
returns-in-None-clause-shown c op at here dep =
    let none = rw c.in-None.is at c.in_ok-closed.ensures in
    absurd (subst (λ (x : Op). ¬ DependsOn c.args.walked.now.station.now x c.args.switch.0)
    (same_op c.args.walked.now.operations.now c.args.walked.now.number c.operation_of-op.result op
    c.operation_of-op.ensures at) none.turn dep)
