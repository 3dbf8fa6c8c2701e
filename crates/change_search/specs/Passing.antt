-- When the walk of a switch is too wide, and when it keeps its limit.
use Rattle.std.specs.Prelude.{◌≡◌, ℕ, suc, ◌⊎◌, List, length}
use Rattle.station_graph.specs.Diagram.{Diagram}
use Rattle.decision_graphs.specs.Label.{Layered}
use Rattle.judge_pool.specs.declared.view.View.{View}
use Rattle.judge_pool.specs.declared.view.View.TheVariants.{Gap, Load}
use Rattle.graph_walks.specs.Walks.{IsWideWalk, HasWalkRoom}
use Rattle.step_graphs.specs.declared.step.Step.{Step}
use Rattle.step_graphs.specs.Moved.{IsMovedGraph}
use Rattle.step_graphs.specs.Edges.{StepsPass, StepsKeep}

-- In one of the two stations and one of the two views the graph of the switch whose step stands at place b has more edges
-- than the limit before it is reduced.
abbrev pub GraphsPass : Diagram → Diagram → List Step → List Step → ℕ → ℕ → Type 0
GraphsPass o n old_steps new_steps b limit =
    (view : View) × (StepsPass view o old_steps b limit ⊎ StepsPass view n new_steps b limit)

-- One of the products by which the four graphs of the switch are walked has more.
pub record WalkPasses (o n : Diagram) (old_steps new_steps : List Step) (b i k limit : ℕ) : Type 0 where
  pub others : ℕ
  pub count : suc others ≡ length old_steps
  pub old_gap : Layered
  pub new_gap : Layered
  pub old_load : Layered
  pub new_load : Layered
  pub is_old_gap : IsMovedGraph Gap o old_steps b i old_gap
  pub is_new_gap : IsMovedGraph Gap n new_steps b k new_gap
  pub is_old_load : IsMovedGraph Load o old_steps b i old_load
  pub is_new_load : IsMovedGraph Load n new_steps b k new_load
  pub wide : IsWideWalk old_gap new_gap old_load new_load others limit

-- One or the other.
abbrev pub IsWideSwitchWalk : Diagram → Diagram → List Step → List Step → ℕ → ℕ → ℕ → ℕ → Type 0
IsWideSwitchWalk o n old_steps new_steps b i k limit =
    GraphsPass o n old_steps new_steps b limit ⊎ WalkPasses o n old_steps new_steps b i k limit

-- Neither has more: in no station and no view the graph of the switch before it is reduced, and no product by which the four
-- graphs are walked.
pub record KeepsSwitchWalk (o n : Diagram) (old_steps new_steps : List Step) (b i k limit : ℕ) : Type 0 where
  pub old_gap_keeps : StepsKeep Gap o old_steps b limit
  pub new_gap_keeps : StepsKeep Gap n new_steps b limit
  pub old_load_keeps : StepsKeep Load o old_steps b limit
  pub new_load_keeps : StepsKeep Load n new_steps b limit
  pub others : ℕ
  pub count : suc others ≡ length old_steps
  pub old_gap : Layered
  pub new_gap : Layered
  pub old_load : Layered
  pub new_load : Layered
  pub is_old_gap : IsMovedGraph Gap o old_steps b i old_gap
  pub is_new_gap : IsMovedGraph Gap n new_steps b k new_gap
  pub is_old_load : IsMovedGraph Load o old_steps b i old_load
  pub is_new_load : IsMovedGraph Load n new_steps b k new_load
  pub room : HasWalkRoom old_gap new_gap old_load new_load others limit
