-- Which lines are those of an equation text of a station.
use Rattle.std.specs.Prelude.{◌≡◌, ◌<◌, ◌≤◌, ℕ, List, [], ◌∷◌, length, slice_get, Some}
use Rattle.station_graph.specs.Diagram.{Diagram, part_count}
use Rattle.station_graph.specs.Connection.{a_switch}
use Rattle.station_graph.specs.Sharing.{OfPart}
use Rattle.part_alphabets.specs.declared.fork.Target.{Target}
use Rattle.part_alphabets.specs.declared.fork.Target.TheVariants.{Step, Index}
use Rattle.part_alphabets.specs.declared.fork.PartStep.{PartStep}
use Rattle.station_equations.specs.declared.goal.Goal.{Goal}
use Rattle.station_equations.specs.declared.goal.Goal.TheVariants.{Node, Answer}
use Rattle.station_equations.specs.declared.goal.SwitchGoals.{SwitchGoals}
use Rattle.station_equations.specs.declared.goal.TheConstants.{GREATEST_INDEX}
use Rattle.station_equations.specs.EquationLines.{PartLines, NodeLine, part_node, switch_node, EquationLines}
use Rattle.station_equations.specs.EquationLines.{goal_count}

-- The target is one of so many steps, or an index.
abbrev pub IsTarget : ℕ → Target → Type 0
IsTarget steps (Step n) = n < steps
IsTarget steps (Index i) = i ≤ GREATEST_INDEX

-- The target is one of so many steps behind step m, or an index.
abbrev pub IsLaterTarget : ℕ → ℕ → Target → Type 0
IsLaterTarget steps m (Step n) = (m < n) × (n < steps)
IsLaterTarget steps m (Index i) = i ≤ GREATEST_INDEX

-- Step m of so many tests one of so many switches, and leads to later steps or to indices.
pub record StepLineFits (switches steps m : ℕ) (s : PartStep) : Type 0 where
  pub switch : s.switch.0 < switches
  pub off : IsLaterTarget steps m s.off
  pub on : IsLaterTarget steps m s.on

-- Each step fits.
abbrev pub StepsFit : ℕ → List PartStep → Type 0
StepsFit switches steps = (m : ℕ) (s : PartStep) → slice_get steps m ≡ Some s → StepLineFits switches (length steps) m s

-- The lines of a part begin at one of its steps or at an index, and each of its steps fits.
pub record PartLinesFit (switches : ℕ) (x : PartLines) : Type 0 where
  pub start : IsTarget (length x.steps) x.start
  pub steps : StepsFit switches x.steps

-- The goal is one of so many nodes, or an answer.
abbrev pub IsGoal : ℕ → Goal → Type 0
IsGoal nodes (Node n) = n < nodes
IsGoal nodes (Answer a) = Unit {0}

-- The goal is one of so many nodes behind node n, or an answer.
abbrev pub IsLaterGoal : ℕ → ℕ → Goal → Type 0
IsLaterGoal nodes n (Node k) = (n < k) × (k < nodes)
IsLaterGoal nodes n (Answer a) = Unit {0}

-- Each goal is one of so many nodes behind node n, or an answer.
abbrev pub AreLaterGoals : ℕ → ℕ → List Goal → Type 0
AreLaterGoals nodes n goals = (i : ℕ) (g : Goal) → slice_get goals i ≡ Some g → IsLaterGoal nodes n g

-- A node of a part has a goal for each index.
pub record HasGoals (parts : List PartLines) (part : ℕ) (goals : List Goal) : Type 0 where
  pub lines : PartLines
  pub listed : slice_get parts part ≡ Some lines
  pub count : length goals ≡ goal_count lines

-- A node leads on by a part with a goal for each index, or by one of so many switches.
abbrev pub LeadsBy : ℕ → List PartLines → NodeLine → Type 0
LeadsBy switches parts (part_node part goals) = HasGoals parts part goals
LeadsBy switches parts (switch_node switch off on) = switch < switches

-- The goals of a node.
abbrev pub goals_of : NodeLine → List Goal
goals_of (part_node part goals) = goals
goals_of (switch_node switch off on) = off ∷ on ∷ []

-- Node n of so many leads on by a part or a switch, to later nodes or to answers.
pub record NodeLineFits (switches : ℕ) (parts : List PartLines) (nodes n : ℕ) (x : NodeLine) : Type 0 where
  pub by : LeadsBy switches parts x
  pub goals : AreLaterGoals nodes n (goals_of x)

-- The goals of a switch's operations.
pub record SwitchGoalsFit (nodes : ℕ) (x : SwitchGoals) : Type 0 where
  pub opening : IsGoal nodes x.opening
  pub closing : IsGoal nodes x.closing

-- Each part's lines fit.
abbrev pub PartsFit : ℕ → List PartLines → Type 0
PartsFit switches parts = (part : ℕ) (x : PartLines) → slice_get parts part ≡ Some x → PartLinesFit switches x

-- Each node's line fits.
abbrev pub NodesFit : ℕ → List PartLines → List NodeLine → Type 0
NodesFit switches parts nodes =
    (n : ℕ) (x : NodeLine) → slice_get nodes n ≡ Some x → NodeLineFits switches parts (length nodes) n x

-- Each switch's goals are nodes or answers.
abbrev pub OpsFit : ℕ → List SwitchGoals → Type 0
OpsFit nodes ops = (switch : ℕ) (x : SwitchGoals) → slice_get ops switch ≡ Some x → SwitchGoalsFit nodes x

-- Each number that a line writes is defined, and each target and goal stands behind its line. There are as
-- many switches as have operations.
pub record AreWhole (e : EquationLines) : Type 0 where
  pub parts : PartsFit (length e.ops) e.parts
  pub ops : OpsFit (length e.nodes) e.ops
  pub nodes : NodesFit (length e.ops) e.parts e.nodes

-- The lines are those of the station: of each of its parts, whose steps test its own switches, and of each
-- of its switches.
pub record AreEquations (d : Diagram) (e : EquationLines) : Type 0 where
  pub whole : AreWhole e
  pub parts : length e.parts ≡ part_count d
  pub ops : length e.ops ≡ length d.switches
  pub own : (part m : ℕ) (x : PartLines) (s : PartStep) → slice_get e.parts part ≡ Some x →
      slice_get x.steps m ≡ Some s → OfPart d part (a_switch s.switch.0)
