-- The stock of two stations where its pool has grown, and by lists that are the same.
use Rattle.std.proofs.Common.{◌≡◌, ◌∙◌, ℕ, List, Vec, Global, length, map, sym, subst}
use Rattle.station_graph.specs.Diagram.{Diagram}
use Rattle.judge_pool.specs.declared.pool.Pool.{Pool}
use Rattle.judge_pool.specs.declared.view.View.{View}
use Rattle.judge_pool.specs.Pooling.{GrewTo}
use Rattle.judge_pool.proofs.LayeringLemmas.{grows}
use Rattle.step_graphs.specs.declared.step.Step.{Step}
use Rattle.step_graphs.specs.Letters.{AreStepRows}
use Rattle.step_graphs.proofs.StepLemmas.{step_rows_stay}
use Rattle.station_compare.specs.declared.stocks.PairStock.{PairStock}
use Rattle.station_compare.specs.Walking.{IsPairStock}

-- the numbers in the lists
abbrev pub ids_of : List (Vec ℕ Global) → List (List ℕ)
ids_of rows = map (λ (v : Vec ℕ Global). v.items) rows

-- rows of steps, where both lists are borrowed
pub rows_held : (p : Pool) (d : Diagram) (steps lent : List Step) (rows held : List (Vec ℕ Global)) → lent ≡ steps →
    held ≡ rows → AreStepRows p d steps (ids_of rows) (length steps) → AreStepRows p d lent (ids_of held) (length lent)
rows_held p d steps lent rows held e f h =
    subst (λ (ss : List Step). AreStepRows p d ss (ids_of held) (length ss)) (sym e)
    (subst (λ (rs : List (Vec ℕ Global)). AreStepRows p d steps (ids_of rs) (length steps)) (sym f) h)

-- the pool has grown
pub stock_grew : (view : View) (o n : Diagram) (olds news : List Step) (s : PairStock) (q : Pool) →
    IsPairStock view o n olds news s → GrewTo s.pool q →
    IsPairStock view o n olds news (record { pool = q; old_rows = s.old_rows; new_rows = s.new_rows })
stock_grew view o n olds news s q is g = record {
  pool = g.is_pool;
  seen = g.view ∙ is.seen;
  old_rows = step_rows_stay s.pool q (grows s.pool q g) o olds (ids_of s.old_rows.items) (length olds) is.old_rows;
  new_rows = step_rows_stay s.pool q (grows s.pool q g) n news (ids_of s.new_rows.items) (length news) is.new_rows;
}

-- the lists of steps are borrowed
pub stock_by : (view : View) (o n : Diagram) (olds news xs ys : List Step) (s : PairStock) → olds ≡ xs → news ≡ ys →
    IsPairStock view o n olds news s → IsPairStock view o n xs ys s
stock_by view o n olds news xs ys s e f is =
    subst (λ (l : List Step). IsPairStock view o n xs l s) f (subst (λ (l : List Step). IsPairStock view o n l news s) e
    is)
