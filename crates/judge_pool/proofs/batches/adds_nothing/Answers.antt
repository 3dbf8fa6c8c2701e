use Rattle.std.proofs.Common.{sym, subst}
use Rattle.judge_pool.specs.Seen.{ComposesIn}
use Rattle.judge_pool.proofs.batches.adds_nothing.Goals as goal

pub returns-in-Gap-clause-composes : goal.returns-in-Gap-clause-composes
returns-in-Gap-clause-composes c e =
    subst (λ w. ComposesIn w c.args.x.now c.args.y.now c.args.x.now) (sym c.in-Gap.is)
    (c.gap_stays_with.ensures.stays.0 e).1

pub returns-in-Load-clause-composes : goal.returns-in-Load-clause-composes
returns-in-Load-clause-composes c e =
    subst (λ w. ComposesIn w c.args.x.now c.args.y.now c.args.x.now) (sym c.in-Load.is)
    (c.load_stays_with.ensures.stays.0 e).1
