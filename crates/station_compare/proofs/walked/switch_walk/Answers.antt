use Rattle.std.proofs.Common.{◌-◌, sym, ◌∙◌, inl, inr, arith}
use Rattle.judge_pool.specs.declared.view.View.TheVariants.{Gap, Load}
use Rattle.judge_pool.proofs.ErrorLemmas.{passed_on}
use Rattle.station_compare.proofs.WideLemmas.{graphs_keep}
use Rattle.station_compare.proofs.walked.switch_walk.Goals as goal

pub returns-clause-stocks : goal.returns-clause-stocks
returns-clause-stocks c = record { gap = c.in_ok-new_gap.ensures.stock; load = c.in_ok-new_load.ensures.stock }

pub returns-in_err-old_gap-clause-wide : goal.returns-in_err-old_gap-clause-wide
returns-in_err-old_gap-clause-wide c =
    passed_on _ _ c.from_residual.result c.from_residual.ensures.1 (λ trouble same is.
    inl (Gap, tt, c.in_err-old_gap.ensures.wide (sym same ∙ is)))

pub returns-in_err-new_gap-clause-wide : goal.returns-in_err-new_gap-clause-wide
returns-in_err-new_gap-clause-wide c =
    passed_on _ _ c.from_residual-in_err-new_gap.result c.from_residual-in_err-new_gap.ensures.1 (λ trouble same is.
    inr (inl (Gap, tt, c.in_err-new_gap.ensures.wide (sym same ∙ is))))

pub returns-in_err-old_load-clause-wide : goal.returns-in_err-old_load-clause-wide
returns-in_err-old_load-clause-wide c =
    passed_on _ _ c.from_residual-in_err-old_load.result c.from_residual-in_err-old_load.ensures.1 (λ trouble same is.
    let wide = c.in_err-old_load.ensures.wide (sym same ∙ is) in inl (Load, wide.0, wide.1))

pub returns-in_err-new_load-clause-wide : goal.returns-in_err-new_load-clause-wide
returns-in_err-new_load-clause-wide c =
    passed_on _ _ c.from_residual-in_err-new_load.result c.from_residual-in_err-new_load.ensures.1 (λ trouble same is.
    let wide = c.in_err-new_load.ensures.wide (sym same ∙ is) in inr (inl (Load, wide.0, wide.1)))

pub returns-in_err-walk-clause-wide : goal.returns-in_err-walk-clause-wide
returns-in_err-walk-clause-wide c =
    passed_on _ _ c.from_residual-in_err-walk.result c.from_residual-in_err-walk.ensures.1 (λ trouble same is.
    inr (inr (record {
      others = c.len.result - 1;
      count = omega (arith, c.len.ensures, c.requires.moved.walk.others);
      old_gap = c.in_ok-old_gap.old_gap;
      new_gap = c.in_ok-new_gap.new_gap;
      old_load = c.in_ok-old_load.old_load;
      new_load = c.in_ok-new_load.new_load;
      is_old_gap = c.in_ok-old_gap.ensures.graph;
      is_new_gap = c.in_ok-new_gap.ensures.graph;
      is_old_load = c.in_ok-old_load.ensures.graph;
      is_new_load = c.in_ok-new_load.ensures.graph;
      wide = c.in_err-walk.ensures.wide (sym same ∙ is);
    })))

pub returns-clause-keeps : goal.returns-clause-keeps
returns-clause-keeps c =
    let m = c.args.moved.now in
    record {
      old_keeps =
          graphs_keep m.old.now m.steps.now.old_steps.items m.place m.id.0 m.limit c.in_ok-old_gap.ensures.room
          c.in_ok-old_load.ensures.keeps;
      new_keeps =
          graphs_keep m.new.now m.steps.now.new_steps.items m.place m.new_id.0 m.limit c.in_ok-new_gap.ensures.room
          c.in_ok-new_load.ensures.keeps;
      others = c.len.result - 1;
      count = omega (arith, c.len.ensures, c.requires.moved.walk.others);
      old_gap = c.in_ok-old_gap.old_gap;
      new_gap = c.in_ok-new_gap.new_gap;
      old_load = c.in_ok-old_load.old_load;
      new_load = c.in_ok-new_load.new_load;
      is_old_gap = c.in_ok-old_gap.ensures.graph;
      is_new_gap = c.in_ok-new_gap.ensures.graph;
      is_old_load = c.in_ok-old_load.ensures.graph;
      is_new_load = c.in_ok-new_load.ensures.graph;
      room = c.in_ok-walk.ensures.room;
    }
