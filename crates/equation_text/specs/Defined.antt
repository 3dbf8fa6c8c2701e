-- Whether each number that lines name is defined.
use Rattle.std.specs.Prelude.{◌≡◌, ℕ, List, length, slice_get, Some}
use Rattle.part_alphabets.specs.declared.fork.PartStep.{PartStep}
use Rattle.station_equations.specs.declared.goal.Goal.{Goal}
use Rattle.station_equations.specs.declared.goal.SwitchGoals.{SwitchGoals}
use Rattle.station_equations.specs.declared.goal.TheConstants.{NUMBERS}
use Rattle.station_equations.specs.EquationLines.{PartLines, NodeLine}
use Rattle.station_equations.specs.EquationForm.{IsTarget, IsGoal, OpsFit, goals_of}

-- Each target is one of so many steps, or an index.
abbrev pub StepsThere : ℕ → List PartStep → Type 0
StepsThere n steps = (m : ℕ) (s : PartStep) → slice_get steps m ≡ Some s → IsTarget n s.off × IsTarget n s.on

-- Each target can be written.
abbrev pub StepsMay : List PartStep → Type 0
StepsMay steps = StepsThere NUMBERS steps

-- The targets of a part are among its steps, or indices.
abbrev pub PartThere : PartLines → Type 0
PartThere x = IsTarget (length x.steps) x.start × StepsThere (length x.steps) x.steps

abbrev pub PartsThere : List PartLines → Type 0
PartsThere parts = (part : ℕ) (x : PartLines) → slice_get parts part ≡ Some x → PartThere x

-- The targets of all parts can be written.
abbrev pub PartsMay : List PartLines → Type 0
PartsMay parts = (part : ℕ) (x : PartLines) → slice_get parts part ≡ Some x → IsTarget NUMBERS x.start
    × StepsMay x.steps

-- Each goal is one of so many nodes, or an answer.
abbrev pub GoalsThere : ℕ → List Goal → Type 0
GoalsThere n goals = (i : ℕ) (g : Goal) → slice_get goals i ≡ Some g → IsGoal n g

abbrev pub NodesThere : ℕ → List NodeLine → Type 0
NodesThere n nodes = (k : ℕ) (x : NodeLine) → slice_get nodes k ≡ Some x → GoalsThere n (goals_of x)

-- Each number that the lines name is that of a step or node that is there.
pub record AreThere (parts : List PartLines) (ops : List SwitchGoals) (nodes : List NodeLine) : Type 0 where
  pub parts_there : PartsThere parts
  pub ops_there : OpsFit (length nodes) ops
  pub nodes_there : NodesThere (length nodes) nodes
