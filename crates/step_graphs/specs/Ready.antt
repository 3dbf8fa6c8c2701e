-- What a graph takes in is ready.
use Rattle.std.specs.Prelude.{◌≡◌, ℕ, suc, List, length, map}
use Rattle.station_graph.specs.Diagram.{Diagram}
use Rattle.judge_pool.specs.declared.pool.Pool.{Pool}
use Rattle.judge_pool.specs.Pooling.{IsPool}
use Rattle.judge_intake.specs.Inputs.{AreKeeps, AreOtherRows, HasNothing}
use Rattle.step_graphs.specs.declared.step.Step.{Step}
use Rattle.step_graphs.specs.declared.graph.StepStock.{StepStock}
use Rattle.step_graphs.specs.Letters.{AreStepRows}
use Rattle.step_graphs.specs.Needing.{IsNeeded}

-- The pool has the values of each step, and the rows are their numbers.
pub record IsStepStock (d : Diagram) (steps : List Step) (s : StepStock) : Type 0 where
  pub pool : IsPool s.pool
  pub rows : AreStepRows s.pool d steps (map (λ v. v.items) s.rows.items) (length steps)

-- The start is a value of nothing, the letters are those of all steps but the one at place b, and the nodes are those
-- that are needed.
pub record IsStepReady (p : Pool) (d : Diagram) (steps : List Step) (b others start : ℕ) (letters : List (List ℕ))
    (keeps : List ℕ) : Type 0 where
  pub all : List (List ℕ)
  pub count : suc others ≡ length steps
  pub rows : AreStepRows p d steps all (length steps)
  pub letters_of : AreOtherRows b all letters others
  pub needed : AreKeeps (IsNeeded d steps b) p keeps (suc others)
  pub begins : HasNothing p start
