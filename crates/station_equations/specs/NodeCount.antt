-- How many node lines a bay has: those to which the lines of its operations lead.
use Rattle.std.specs.Prelude.{◌≡◌, ◌<◌, ◌≤◌, ◌+◌, ◌*◌, ℕ, suc, List, length, slice_get, Some}
use Rattle.ilk_base.specs.declared.words.Direction.{Direction}
use Rattle.station_graph.specs.declared.items.Switch.{Switch}
use Rattle.station_graph.specs.Diagram.{Diagram}
use Rattle.part_alphabets.specs.Counting.{AreSoMany}
use Rattle.judge_pool.specs.Counted.{BayHas}
use Rattle.judge_pool.specs.Layering.{NoneTwice}
use Rattle.station_equations.specs.declared.goal.Goal.{Goal}
use Rattle.station_equations.specs.declared.goal.Goal.TheVariants.{Node, Answer}
use Rattle.station_equations.specs.declared.goal.SwitchGoals.{SwitchGoals}
use Rattle.station_equations.specs.EquationLines.{NodeLine, EquationLines, goal_towards}
use Rattle.station_equations.specs.EquationMeaning.{Leads}
use Rattle.station_equations.specs.EquationForm.{goals_of}

-- The line of node n writes this goal.
pub record Writes (nodes : List NodeLine) (n : ℕ) (g : Goal) : Type 0 where
  pub line : NodeLine
  pub listed : slice_get nodes n ≡ Some line
  pub place : ℕ
  pub goal : slice_get (goals_of line) place ≡ Some g

-- The one goal is that of a node whose line writes the other.
abbrev pub WritesGoal : List NodeLine → Goal → Goal → Type 0
WritesGoal nodes (Node n) g = Writes nodes n g
WritesGoal nodes (Answer a) g = ⊥

-- Node n is one of the bay: it is reached from the line of an operation of one of its switches.
pub record IsNodeOf (d : Diagram) (e : EquationLines) (b n : ℕ) : Type 0 where
  pub number : ℕ
  pub switch : Switch
  pub is_switch : slice_get d.switches number ≡ Some switch
  pub own : switch.bay.0 ≡ b
  pub goals : SwitchGoals
  pub listed : slice_get e.ops number ≡ Some goals
  pub direction : Direction
  pub reached : Leads (WritesGoal e.nodes) (goal_towards goals direction) (Node n)

-- At most so many numbers have the property.
abbrev pub AreAtMost : ℕ → (ℕ → Type 0) → Type 0
AreAtMost most P = (ns : List ℕ) → NoneTwice ns → ((i n : ℕ) → slice_get ns i ≡ Some n → P n) → length ns ≤ most

-- The most node lines of a bay with these counted sizes: for each of its switches twice as many as its outer graphs
-- have counted edges, and beside them as many as its inner graphs have.
abbrev pub most_nodes : {d : Diagram} {b edges : ℕ} → BayHas d b (AreSoMany d) edges → ℕ
most_nodes has =
    2 * (has.count * (has.gap.outer_edges + has.load.outer_edges)) + (has.gap.inner_edges + has.load.inner_edges)

-- A bay has no more nodes than its counted sizes allow.
abbrev pub HaveFewNodes : Diagram → EquationLines → Type 0
HaveFewNodes d e = (b edges : ℕ) → (has : BayHas d b (AreSoMany d) edges) → AreAtMost (most_nodes has) (IsNodeOf d e b)

-- All node lines, also those to which nothing leads, are shared out among the switches, in their order, and those of
-- the switches of a bay are together no more than its counted sizes allow.
pub record HaveFewLines (d : Diagram) (e : EquationLines) : Type 0 where
  -- how many the switches before that of a number have
  pub before : ℕ → ℕ
  pub begins : before 0 ≡ 0
  pub climbs : (m : ℕ) → m < length d.switches → before m ≤ before (suc m)
  pub ends : before (length d.switches) ≡ length e.nodes
  pub few : (b edges : ℕ) → (has : BayHas d b (AreSoMany d) edges) →
      before (has.first + has.count) ≤ before has.first + most_nodes has
