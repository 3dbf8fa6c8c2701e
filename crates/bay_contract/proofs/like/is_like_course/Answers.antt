use Rattle.std.proofs.Common.{arith}
use Rattle.bay_contract.proofs.LikeLemmas.{like_course}
use Rattle.bay_contract.proofs.like.is_like_course.Goals as goal

pub returns : goal.returns
returns c = λ yes.
    like_course c.args.course.now c.args.other.now c.numbers-from.result.now c.numbers-to.result.now
    c.deref.result.now c.deref-2.result.now c.numbers-from.ensures c.numbers-to.ensures c.deref.ensures.value
    c.deref-2.ensures.value
    (omega (arith, c.if-from-to.false)) (c.answers_as.ensures.0 c.if-not-answers_as.false)
    (c.are_like_turns.ensures.count yes) (c.are_like_turns.ensures.turns yes)
