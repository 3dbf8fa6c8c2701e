-- How many edges the graph of a moved switch has, by the distinct views between its layers.
use Rattle.std.specs.Prelude.{◌≡◌, ℕ, suc, ◌*◌, ◌<◌, ◌≤◌, Bool, List, length, slice_get, Some, sum}
use Rattle.station_graph.specs.Diagram.{Diagram}
use Rattle.station_graph.specs.Connection.{Item}
use Rattle.part_alphabets.specs.Counting.{AreSoMany}
use Rattle.judge_pool.specs.declared.view.View.{View}
use Rattle.judge_pool.specs.Counted.{Passes}
use Rattle.judge_pool.specs.Graphs.{other_of}
use Rattle.judge_pool.specs.Seen.{SameView}
use Rattle.step_graphs.specs.declared.step.Step.{Step}
use Rattle.step_graphs.specs.Steps.{TakesIn}
use Rattle.step_graphs.specs.Needing.{IsNeeded}

-- One of the first j steps other than that at place b takes the item in.
abbrev pub TakenBefore : List Step → ℕ → ℕ → Item → Type 0
TakenBefore steps b j item = (i : ℕ) × (i < j) × TakesIn steps (other_of 0 b i) item

-- In v and w the items of the first j other steps have this view in common, on the nodes that are kept before the next.
abbrev pub SameSteps : View → Diagram → List Step → ℕ → ℕ → List Bool → List Bool → Type 0
SameSteps view d steps b j v w = SameView view (IsNeeded d steps b j) (TakenBefore steps b j) d v w

-- Before each of the first n other steps there are so many distinct views, each with two edges.
pub record StepsHave (view : View) (d : Diagram) (steps : List Step) (b n : ℕ)
    (Many : (List Bool → List Bool → Type 0) → ℕ → Type 0) (edges : ℕ) : Type 0 where
  pub sizes : List ℕ
  pub len : length sizes ≡ n
  pub views : (j size : ℕ) → slice_get sizes j ≡ Some size → Many (SameSteps view d steps b j) size
  pub all : 2 * sum sizes ≡ edges

-- The graph of the switch at place b has more edges than the limit: already its first layers have.
pub record StepsPass (view : View) (d : Diagram) (steps : List Step) (b limit : ℕ) : Type 0 where
  pub others : ℕ
  pub within : others < length steps
  pub first : Passes (StepsHave view d steps b others) d limit

-- The graph of the switch at place b has no more edges than the limit: all its layers together have not.
pub record StepsKeep (view : View) (d : Diagram) (steps : List Step) (b limit : ℕ) : Type 0 where
  pub others : ℕ
  pub count : suc others ≡ length steps
  pub edges : ℕ
  pub has : StepsHave view d steps b others (AreSoMany d) edges
  pub few : edges ≤ limit
