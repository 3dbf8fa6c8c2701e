use Rattle.std.proofs.Common.{◌∙◌, List, sym, ap}
use Rattle.std.specs.Prelude.{slice_get}
use Rattle.judge_pool.specs.declared.view.View.TheVariants.{Gap, Load}
use Rattle.step_graphs.specs.declared.step.Step.{Step}
use Rattle.station_compare.proofs.StockLemmas.{stock_by}
use Rattle.station_compare.proofs.stocks.stocks_of.Goals as goal

pub pair_stock-requires-clause-olds : goal.pair_stock-requires-clause-olds
pair_stock-requires-clause-olds c = λ p s at.
    c.requires.steps.old_all.fit p s (sym (ap (λ (xs : List Step). slice_get xs p) c.as_slice-olds.ensures.value) ∙ at)

pub pair_stock-requires-clause-news : goal.pair_stock-requires-clause-news
pair_stock-requires-clause-news c = λ p s at.
    c.requires.steps.new_all.fit p s (sym (ap (λ (xs : List Step). slice_get xs p) c.as_slice-news.ensures.value) ∙ at)

pub pair_stock-requires-2-clause-olds : goal.pair_stock-requires-2-clause-olds
pair_stock-requires-2-clause-olds c = λ p s at.
    c.requires.steps.old_all.fit p s (sym (ap (λ (xs : List Step). slice_get xs p) c.as_slice-olds.ensures.value) ∙ at)

pub pair_stock-requires-2-clause-news : goal.pair_stock-requires-2-clause-news
pair_stock-requires-2-clause-news c = λ p s at.
    c.requires.steps.new_all.fit p s (sym (ap (λ (xs : List Step). slice_get xs p) c.as_slice-news.ensures.value) ∙ at)

pub returns : goal.returns
returns c =
    let o = c.args.old.now in
    let n = c.args.new.now in
    record {
      gap =
          stock_by Gap o n c.as_slice-olds.result.now c.as_slice-news.result.now _ _ c.in_ok-gap.gap
          c.as_slice-olds.ensures.value c.as_slice-news.ensures.value c.in_ok-gap.ensures;
      load =
          stock_by Load o n c.as_slice-olds.result.now c.as_slice-news.result.now _ _ c.in_ok-load.load
          c.as_slice-olds.ensures.value c.as_slice-news.ensures.value c.in_ok-load.ensures;
    }
