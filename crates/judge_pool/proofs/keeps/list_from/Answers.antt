use Rattle.std.proofs.Common.{◌++◌, ◌∷◌, [], get_or, sym, ap, ◌∙◌, arith}
use Rattle.std.proofs.lemmas.List.{take_more, take_all}
use Rattle.judge_pool.proofs.keeps.list_from.Goals as goal

pub loop-number-preserved : goal.loop-number-preserved
loop-number-preserved c =
    let n = c.args.numbers.now in
    let k = c.loop-number.number-index in
    c.in_ok-push.ensures.ok ∙ (ap (λ l. l ++ get_or n k 0 ∷ []) c.loop-number.invariant
    ∙ sym (take_more n k 0 c.loop-number-test.true))

pub returns : goal.returns
returns c =
    c.loop-number.invariant
    ∙ take_all c.loop-number.number-index c.args.numbers.now (omega (arith, c.loop-number-test.false))
