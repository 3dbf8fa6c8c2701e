-- What the labels of a walk of four graphs tell: the gap graphs of the old and of the new station, and their load graphs.
use Rattle.std.specs.Prelude.{◌≡◌, ◌==◌, ℕ, suc, if◌then◌else◌, List, length, Option, Some, None}
use Rattle.ilk_base.specs.declared.words.Direction.{Direction}
use Rattle.ilk_base.specs.declared.words.Direction.TheVariants.{ToOff, ToOn}
use Rattle.ilk_base.specs.declared.words.Rule.{Rule}
use Rattle.ilk_base.specs.declared.words.Rule.TheVariants.{R3}
use Rattle.station_graph.specs.Diagram.{Diagram}
use Rattle.station_changes.specs.declared.change.Change.{Change}
use Rattle.station_changes.specs.declared.change.Change.TheVariants.{Stricter, Looser}
use Rattle.decision_graphs.specs.Label.{Layered}
use Rattle.graph_walks.specs.declared.codes.Codes.{Codes}
use Rattle.graph_walks.specs.Walks.{IsWalkOf}
use Rattle.judge_pool.specs.declared.view.View.TheVariants.{Gap, Load}
use Rattle.judge_pool.specs.Graphs.{gap_rule}
use Rattle.step_graphs.specs.declared.step.Step.{Step}
use Rattle.step_graphs.specs.Moved.{IsMovedGraph}

-- The rule that a label of a load graph says.
abbrev pub load_rule : ℕ → Option Rule
load_rule label = if label == 1 then Some R3 else None

-- The first rule that is broken.
abbrev pub first_rule : Option Rule → Option Rule → Option Rule
first_rule None load = load
first_rule (Some rule) load = Some rule

-- What both labels say of a move in this direction. Opening breaks the third rule alone.
abbrev pub answer_of : Direction → ℕ → ℕ → Option Rule
answer_of ToOff gap load = load_rule load
answer_of ToOn gap load = first_rule (gap_rule gap) (load_rule load)

-- The labels tell this change by this rule.
abbrev pub Tells : Direction → Change → Rule → Codes → Type 0
Tells direction Stricter rule c =
    (answer_of direction c.first c.third ≡ None) × (answer_of direction c.second c.fourth ≡ Some rule)
Tells direction Looser rule c =
    (answer_of direction c.first c.third ≡ Some rule) × (answer_of direction c.second c.fourth ≡ None)

-- The walk of the four graphs of switch i of the old station and switch k of the new one, whose steps stand at place b.
pub record IsSwitchWalk (o n : Diagram) (old_steps new_steps : List Step) (b i k : ℕ) (walk : Layered)
    (codes : List Codes) : Type 0 where
  pub others : ℕ
  pub count : suc others ≡ length old_steps
  pub old_gap : Layered
  pub new_gap : Layered
  pub old_load : Layered
  pub new_load : Layered
  pub is_old_gap : IsMovedGraph Gap o old_steps b i old_gap
  pub is_new_gap : IsMovedGraph Gap n new_steps b k new_gap
  pub is_old_load : IsMovedGraph Load o old_steps b i old_load
  pub is_new_load : IsMovedGraph Load n new_steps b k new_load
  pub walked : IsWalkOf old_gap new_gap old_load new_load others walk codes
