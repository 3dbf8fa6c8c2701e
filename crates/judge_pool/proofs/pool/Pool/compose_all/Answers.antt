use Rattle.std.proofs.Common.{sym, subst, IfSome}
use Rattle.contraction.specs.Selecting.{Selected}
use Rattle.judge_pool.specs.Pooling.{SelectsAll}
use Rattle.judge_pool.proofs.pool.Pool.compose_all.Goals as goal

pub compose_on-requires-clause-selects : goal.compose_on-requires-clause-selects
compose_on-requires-clause-selects c =
    let p = c.args.self.now in
    let letters = c.args.letters.now in
    let given = subst (λ o. IfSome o (λ s. SelectsAll p c.args.batch letters s.value)) c.in-Some.is c.requires.shared in
    subst (λ (s : Selected). SelectsAll p c.args.batch letters s) (sym c.deref.ensures) given
