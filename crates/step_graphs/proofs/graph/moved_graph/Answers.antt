use Rattle.std.proofs.Common.{ℕ, List, Vec, Global, length, map, sym, subst}
use Rattle.judge_pool.specs.declared.pool.Pool.{Pool}
use Rattle.judge_pool.proofs.LayeringLemmas.{grows}
use Rattle.step_graphs.specs.Letters.{AreStepRows}
use Rattle.step_graphs.proofs.StepLemmas.{step_rows_stay}
use Rattle.step_graphs.proofs.graph.moved_graph.Goals as goal

abbrev ids_of : List (Vec ℕ Global) → List (List ℕ)
ids_of rows = map (λ (v : Vec ℕ Global). v.items) rows

pub moved_graph_in-requires-clause-rows : goal.moved_graph_in-requires-clause-rows
moved_graph_in-requires-clause-rows c =
    subst (λ (rs : List (Vec ℕ Global)). AreStepRows c.args.stock.now.pool c.args.station.now c.args.steps.now (ids_of rs)
    (length c.args.steps.now)) (sym c.deref.ensures.value) c.requires.stock.rows

pub returns-clause-stock : goal.returns-clause-stock
returns-clause-stock c =
    let p : Pool = c.args.stock.now.pool in
    let q : Pool = c.moved_graph_in.new.pool in
    record {
      pool = c.in_ok-graph.ensures.grew.is_pool;
      rows =
          step_rows_stay p q (grows p q c.in_ok-graph.ensures.grew) c.args.station.now c.args.steps.now
          (ids_of c.args.stock.now.rows.items) (length c.args.steps.now) c.requires.stock.rows;
    }
