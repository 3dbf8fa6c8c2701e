use Rattle.std.proofs.Common.{sym, ◌∙◌, inl}
use Rattle.judge_pool.specs.declared.view.View.TheVariants.{Gap, Load}
use Rattle.judge_pool.proofs.ErrorLemmas.{passed_on}
use Rattle.dependence_search.proofs.WideLemmas.{passes_in}
use Rattle.dependence_search.proofs.walk.rule_walk.Goals as goal

pub returns-in_err-gap-clause-wide : goal.returns-in_err-gap-clause-wide
returns-in_err-gap-clause-wide c =
    passed_on _ _ c.from_residual.result c.from_residual.ensures.1 (λ trouble same is.
    inl (
      Gap,
      inl (passes_in Gap c.args.stocks.now.gap.pool.view c.args.station.now c.args.steps.now c.args.place
          c.args.budget c.requires.stocks.gap_view (c.in_err-gap.ensures.wide (sym same ∙ is))),
    ))

pub returns-in_err-load-clause-wide : goal.returns-in_err-load-clause-wide
returns-in_err-load-clause-wide c =
    passed_on _ _ c.from_residual-in_err-load.result c.from_residual-in_err-load.ensures.1 (λ trouble same is.
    inl (
      Load,
      inl (passes_in Load c.args.stocks.now.load.pool.view c.args.station.now c.args.steps.now c.args.place
          c.args.budget c.requires.stocks.load_view (c.in_err-load.ensures.wide (sym same ∙ is))),
    ))
