-- What the graphs of one view are made of.
use Rattle.std.specs.Prelude.{◌≡◌, map}
use Rattle.station_graph.specs.Diagram.{part_count}
use Rattle.judge_pool.specs.declared.view.View.{View}
use Rattle.judge_graphs.specs.declared.stock.Stock.{Stock}
use Rattle.judge_pool.specs.Lettered.{Lettered}
use Rattle.judge_pool.specs.Pooling.{IsPool}
use Rattle.judge_intake.specs.Inputs.{AreLetters}
use Rattle.judge_graphs.specs.Noting.{AreOuter}
use Rattle.judge_graphs.specs.Labelling.{AreInnerNotes}

-- The pool is of this view and has the letters of each part, and what is noted is so.
pub record IsStock (a : Lettered) (view : View) (s : Stock) : Type 0 where
  pub pool : IsPool s.pool
  pub of_view : s.pool.view ≡ view
  pub letters : AreLetters a s.pool (map (λ v. v.items) s.letters.items) (part_count a.diagram)
  pub outer : AreOuter s.pool s.outer.items
  pub inner : AreInnerNotes s.pool s.inner
