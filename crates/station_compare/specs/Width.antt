-- Which walk of a switch is made along given steps, and when it keeps the limit and when it passes it.
use Rattle.std.specs.Prelude.{◌≡◌, ◌<◌, ◌⊎◌, ℕ, suc, ⊤, List, length, slice_get, Some}
use Rattle.ilk_base.specs.declared.words.Kind.TheVariants.{Disconnector}
use Rattle.station_graph.specs.Diagram.{Diagram}
use Rattle.station_graph.specs.Connection.{a_switch}
use Rattle.station_graph.specs.declared.items.Switch.{Switch}
use Rattle.station_changes.specs.Compare.{SameSwitch}
use Rattle.decision_graphs.specs.Label.{Layered}
use Rattle.judge_pool.specs.declared.view.View.{View}
use Rattle.judge_pool.specs.declared.view.View.TheVariants.{Gap, Load}
use Rattle.graph_walks.specs.Walks.{HasWalkRoom}
use Rattle.step_graphs.specs.declared.step.Step.{Step}
use Rattle.step_graphs.specs.Edges.{StepsPass, StepsKeep}
use Rattle.step_graphs.specs.Moved.{IsMovedGraph}
use Rattle.step_graphs.specs.Steps.{TakesIn}
use Rattle.change_search.specs.Passing.{WalkPasses}

-- Switch m of the station is a disconnector.
pub record IsDisconnector (d : Diagram) (m : ℕ) : Type 0 where
  pub switch : Switch
  pub at : slice_get d.switches m ≡ Some switch
  pub is : switch.kind ≡ Disconnector

-- The switch has a graph of this view to be walked: each its gap graph, and a disconnector alone its load graph, since the
-- third rule applies to no other.
abbrev pub HasGraph : Diagram → ℕ → View → Type 0
HasGraph d m Gap = ⊤
HasGraph d m Load = IsDisconnector d m

-- A graph of switch m, whose step stands at place b, has more edges than the limit before it is reduced.
abbrev pub GraphPasses : Diagram → List Step → ℕ → ℕ → ℕ → Type 0
GraphPasses d steps b m limit = (view : View) × HasGraph d m view × StepsPass view d steps b limit

-- None of its graphs has more.
abbrev pub GraphsKeep : Diagram → List Step → ℕ → ℕ → ℕ → Type 0
GraphsKeep d steps b m limit = (view : View) → HasGraph d m view → StepsKeep view d steps b limit

-- The walk of switch i of the old station and switch k of the new one, whose steps stand at place b, passes the limit: a
-- graph of one of them has more edges, or a product by which their graphs are walked.
abbrev pub PassesWalk : Diagram → Diagram → List Step → List Step → ℕ → ℕ → ℕ → ℕ → Type 0
PassesWalk o n old_steps new_steps b i k limit =
    GraphPasses o old_steps b i limit
    ⊎ (GraphPasses n new_steps b k limit ⊎ WalkPasses o n old_steps new_steps b i k limit)

-- It keeps the limit: none of their graphs has more edges, and no product by which these are walked.
pub record KeepsWalk (o n : Diagram) (old_steps new_steps : List Step) (b i k limit : ℕ) : Type 0 where
  pub old_keeps : GraphsKeep o old_steps b i limit
  pub new_keeps : GraphsKeep n new_steps b k limit
  pub others : ℕ
  pub count : suc others ≡ length old_steps
  pub old_gap : Layered
  pub new_gap : Layered
  pub old_load : Layered
  pub new_load : Layered
  pub is_old_gap : IsMovedGraph Gap o old_steps b i old_gap
  pub is_new_gap : IsMovedGraph Gap n new_steps b k new_gap
  pub is_old_load : IsMovedGraph Load o old_steps b i old_load
  pub is_new_load : IsMovedGraph Load n new_steps b k new_load
  pub room : HasWalkRoom old_gap new_gap old_load new_load others limit

-- Switch k of the new station is switch i of the old one; the steps of both stand at place b, and not alone.
pub record HasWalk (o n : Diagram) (old_steps new_steps : List Step) (b i k : ℕ) : Type 0 where
  pub same : SameSwitch o n i k
  pub old_at : TakesIn old_steps b (a_switch i)
  pub new_at : TakesIn new_steps b (a_switch k)
  pub others : 1 < length old_steps

-- Along these steps the walk of switch k of the new station keeps the limit, if it has one.
abbrev pub IsNarrowAlong : Diagram → Diagram → List Step → List Step → ℕ → ℕ → Type 0
IsNarrowAlong o n old_steps new_steps k limit =
    (b i : ℕ) → HasWalk o n old_steps new_steps b i k → KeepsWalk o n old_steps new_steps b i k limit

-- Along these steps it has one, which passes it.
pub record IsWideAlong (o n : Diagram) (old_steps new_steps : List Step) (k limit : ℕ) : Type 0 where
  pub place : ℕ
  pub old : ℕ
  pub walk : HasWalk o n old_steps new_steps place old k
  pub passes : PassesWalk o n old_steps new_steps place old k limit
