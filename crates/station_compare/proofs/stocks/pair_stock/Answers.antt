use Rattle.std.proofs.Common.{◌∙◌}
use Rattle.judge_pool.specs.declared.pool.Pool.{Pool}
use Rattle.judge_pool.proofs.LayeringLemmas.{grows}
use Rattle.step_graphs.proofs.StepLemmas.{step_rows_stay}
use Rattle.station_compare.proofs.StockLemmas.{ids_of}
use Rattle.station_compare.proofs.stocks.pair_stock.Goals as goal
use Rattle.std.proofs.Common.{length}

pub returns : goal.returns
returns c =
    let p : Pool = c.step_rows.new.pool in
    let q : Pool = c.step_rows-2.new.pool in
    record {
      pool = c.in_ok-new_rows.ensures.grew.is_pool;
      seen = c.in_ok-new_rows.ensures.grew.view ∙ (c.in_ok-old_rows.ensures.grew.view ∙ c.new-pool.ensures.view);
      old_rows =
          step_rows_stay p q (grows p q c.in_ok-new_rows.ensures.grew) c.args.old.now c.args.olds.now
          (ids_of c.in_ok-old_rows.old_rows.items) (length c.args.olds.now) c.in_ok-old_rows.ensures.rows;
      new_rows = c.in_ok-new_rows.ensures.rows;
    }
