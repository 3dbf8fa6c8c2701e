-- What an outer and an inner graph take in is ready.
use Rattle.std.specs.Prelude.{◌≡◌, ℕ, suc, ◌<◌, List, length}
use Rattle.station_graph.specs.Diagram.{IsStation, part_count}
use Rattle.judge_pool.specs.declared.pool.Pool.{Pool}
use Rattle.judge_pool.specs.Lettered.{Lettered, AreLettered}
use Rattle.judge_pool.specs.Pooling.{IsPool}
use Rattle.judge_pool.specs.Graphs.{IsOwn}
use Rattle.judge_pool.specs.Needing.{IsNeededOuter, InnerNeeds}
use Rattle.judge_intake.specs.Inputs.{AreRows, AreKeeps, HasNothing, AreNames, AreInnerRows, HasLinks}

-- The letters of each layer are those of the other part's alphabet, and the nodes are those that are needed.
pub record IsOuterReady (a : Lettered) (b : ℕ) (p : Pool) (start : ℕ) (letters : List (List ℕ))
    (keeps : List ℕ) : Type 0 where
  pub lettered : AreLettered a
  pub pool : IsPool p
  pub count : suc (length letters) ≡ part_count a.diagram
  pub bay_in : b < part_count a.diagram
  pub rows : AreRows a b p letters (length letters)
  pub needed : AreKeeps (IsNeededOuter a.diagram b) p keeps (suc (length letters))
  pub begins : HasNothing p start

-- The letters are the outer graph's names, and then for each other switch of the bay its two positions; the start
-- answers for the bay's links and taps, and the nodes are those that are needed.
pub record IsInnerReady (a : Lettered) (b m first others : ℕ) (p : Pool) (start : ℕ) (names : List ℕ)
    (letters : List (List ℕ)) (keeps : List ℕ) : Type 0 where
  pub station : IsStation a.diagram
  pub bay_in : b < part_count a.diagram
  pub own : IsOwn a.diagram b m first others
  pub named : AreNames p a.diagram b names
  pub rows : AreInnerRows a.diagram m first p names letters others
  pub needed : AreKeeps (InnerNeeds a.diagram b m first others) p keeps (suc (suc others))
  pub begins : HasLinks p a.diagram b (InnerNeeds a.diagram b m first others 0) start
