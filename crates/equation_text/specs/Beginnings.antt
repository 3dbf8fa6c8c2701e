-- What the lines of a text may say as they are read one by one: a number that a line names may still be
-- defined by a later one.
use Rattle.std.specs.Prelude.{◌≡◌, ◌<◌, ◌++◌, ℕ, List, length, slice_get, Some, codes, decimal}
use Rattle.std.specs.List.{flat_map}
use Rattle.station_graph.specs.Diagram.{Diagram}
use Rattle.station_graph.specs.Connection.{a_switch}
use Rattle.station_graph.specs.Sharing.{OfPart}
use Rattle.part_alphabets.specs.declared.fork.PartStep.{PartStep}
use Rattle.station_equations.specs.declared.goal.TheConstants.{NUMBERS}
use Rattle.station_equations.specs.declared.goal.Goal.{Goal}
use Rattle.station_equations.specs.EquationLines.{NodeLine, part_node, switch_node}
use Rattle.station_equations.specs.EquationForm.{IsTarget, IsLaterGoal, AreLaterGoals, StepLineFits}
use Rattle.station_equations.specs.EquationText.{target_text, goal_text, then_word, node_line}

-- Step m of the part may be this: it tests a switch of the part, and leads to greater steps or to indices.
pub record MayBeStep (d : Diagram) (part m : ℕ) (s : PartStep) : Type 0 where
  pub fits : StepLineFits (length d.switches) NUMBERS m s
  pub own : OfPart d part (a_switch s.switch.0)

-- The switch and the targets of a step, as words.
abbrev pub test_text : PartStep → List ℕ
test_text s = decimal s.switch.0 ++ (codes " " ++ (target_text s.off ++ (codes " " ++ target_text s.on)))

-- The words can name the switch and the targets.
pub record IsTest (s : PartStep) : Type 0 where
  pub switch : s.switch.0 < 65536
  pub off : IsTarget NUMBERS s.off
  pub on : IsTarget NUMBERS s.on

-- Goals as words, each after a blank.
abbrev pub goals_text : List Goal → List ℕ
goals_text goals = flat_map (λ (g : Goal). then_word (goal_text g)) goals

-- The words are a switch, one of so many, and two goals of node n: greater nodes or answers.
pub record IsSwitchNode (switches n : ℕ) (words : List ℕ) (x : NodeLine) : Type 0 where
  pub switch : ℕ
  pub off : Goal
  pub on : Goal
  pub node : x ≡ switch_node switch off on
  pub within : switch < switches
  pub later_off : IsLaterGoal NUMBERS n off
  pub later_on : IsLaterGoal NUMBERS n on
  pub are : words ≡ decimal switch ++ (codes " " ++ (goal_text off ++ (codes " " ++ goal_text on)))

-- The words are a part and as many goals of node n as it has indices: greater nodes or answers.
pub record IsPartNode (counts : List ℕ) (n : ℕ) (words : List ℕ) (x : NodeLine) : Type 0 where
  pub part : ℕ
  pub goals : List Goal
  pub node : x ≡ part_node part goals
  pub indices : slice_get counts part ≡ Some (length goals)
  pub later : AreLaterGoals NUMBERS n goals
  pub are : words ≡ decimal part ++ goals_text goals

-- Node n may be this: it leads on by one of so many switches, or by a part with a goal for each of its indices,
-- to greater nodes or to answers.
abbrev pub MayBeNode : ℕ → List ℕ → ℕ → NodeLine → Type 0
MayBeNode switches counts n (part_node part goals) = (slice_get counts part ≡ Some (length goals))
    × AreLaterGoals NUMBERS n goals
MayBeNode switches counts n (switch_node switch off on) = (switch < switches) × IsLaterGoal NUMBERS n off
    × IsLaterGoal NUMBERS n on

-- The line is that of node n, which may be this.
pub record IsNodeLine (switches : ℕ) (counts : List ℕ) (n : ℕ) (line : List ℕ) (x : NodeLine) : Type 0 where
  pub may : MayBeNode switches counts n x
  pub is : line ≡ node_line n x
