-- What is compiled of a judge by decision graphs.
use Rattle.std.specs.Prelude.{◌≡◌, ◌+◌, ◌-◌, ◌↔◌, ℕ, Bool, List, length, slice_get, Option, Some}
use Rattle.ilk_base.specs.declared.words.Op.{Op}
use Rattle.ilk_base.specs.declared.words.Rule.{Rule}
use Rattle.station_graph.specs.declared.items.Switch.{Switch}
use Rattle.station_graph.specs.Diagram.{Diagram, IsStation, part_count, AreSwitchesOf}
use Rattle.station_graph.specs.Alike.{IsVector}
use Rattle.station_graph.specs.CentralRules.{IsOperation, Breaks}
use Rattle.part_alphabets.specs.declared.fork.PartStep.{PartStep}
use Rattle.part_alphabets.specs.PartAlphabets.{Alphabets, forks_of, size_of}
use Rattle.part_alphabets.specs.Alphabets.{AreAlphabets, HasIndex}
use Rattle.part_alphabets.specs.Counting.{AreStepSizes}
use Rattle.part_alphabets.specs.Targets.{number_of, IsTargetOf, IsStepAt}
use Rattle.station_graph.specs.Connection.{a_switch}
use Rattle.station_graph.specs.Sharing.{OfPart}
use Rattle.judge_pool.specs.declared.view.View.{View}
use Rattle.judge_pool.specs.Graphs.{LabelSays}
use Rattle.judge_graphs.specs.Built.{ViewOf, BayOf}
use Rattle.release_compile.specs.Judging.{Judging, bay_at, inner_at as graph_of}
use Rattle.central_rules.specs.Meaning.{bay_of}
use Rattle.decision_graphs.specs.Label.{Layered, first_at}
use Rattle.decision_graphs.specs.Reaching.{node_total}
use Rattle.station_equations.specs.declared.goal.Goal.{Goal}
use Rattle.station_equations.specs.declared.goal.Goal.TheVariants.{Answer}
use Rattle.station_equations.specs.declared.goal.SwitchGoals.{SwitchGoals}
use Rattle.station_equations.specs.EquationLines.{PartLines, NodeLine, EquationLines, goal_count, goal_towards}
use Rattle.station_equations.specs.EquationMeaning.{LeadsToIndex, Leads, NextGoal, Means}
use Rattle.station_equations.specs.EquationForm.{OpsFit}
use Rattle.station_equations.specs.Growing.{AllGrew, LeadsToEnd}

-- The meaning of the lines is what the rules say, for every operation and vector of the station.
abbrev pub AreExact : Diagram → EquationLines → Type 0
AreExact d e =
    (op : Op) (v : List Bool) (answer : Option Rule) → IsOperation d op → IsVector d v → Means e op v answer ↔
    Breaks d v op answer

-- The step is that of this number in the part's decision diagram.
pub record IsPartStep (a : Alphabets) (part m : ℕ) (s : PartStep) : Type 0 where
  pub step : IsStepAt a.switches (size_of a part) (forks_of a part) m s
  pub off : IsTargetOf (length (forks_of a part)) s.off
  pub on : IsTargetOf (length (forks_of a part)) s.on
  pub own : (d : Diagram) → AreAlphabets d a → OfPart d part (a_switch s.switch.0)

-- The lines are the steps of the part's decision diagram.
pub record AreStepsOf (a : Alphabets) (part : ℕ) (x : PartLines) : Type 0 where
  pub first : number_of (length (forks_of a part)) x.start ≡ 0
  pub target : IsTargetOf (length (forks_of a part)) x.start
  pub count : length x.steps ≡ length (forks_of a part)
  pub each : (m : ℕ) (s : PartStep) → slice_get x.steps m ≡ Some s → IsPartStep a part m s

-- The lines are those of the first n parts.
pub record ArePartsOf (a : Alphabets) (n : ℕ) (parts : List PartLines) : Type 0 where
  pub count : length parts ≡ n
  pub each : (part : ℕ) (x : PartLines) → slice_get parts part ≡ Some x → AreStepsOf a part x

-- The lines of a part are exact: they lead to its index in each vector, and have as many indices as it has.
pub record IsExactPart (d : Diagram) (a : Alphabets) (part : ℕ) (x : PartLines) : Type 0 where
  pub leads : (v : List Bool) (i : ℕ) → IsVector d v → HasIndex d a part i v → LeadsToIndex x v i
  pub count : goal_count x ≡ size_of a part

-- The lines of all parts are.
pub record AreExactParts (d : Diagram) (a : Alphabets) (parts : List PartLines) : Type 0 where
  pub count : length parts ≡ part_count d
  pub each : (part : ℕ) (x : PartLines) → slice_get parts part ≡ Some x → IsExactPart d a part x

-- The switch m is of this bay, whose switches are so many from the first on.
pub record IsOwnBay (d : Diagram) (m b first count : ℕ) : Type 0 where
  pub switch : Switch
  pub listed : slice_get d.switches m ≡ Some switch
  pub bay : switch.bay.0 ≡ b
  pub those : AreSwitchesOf d b first count
  pub station : IsStation d

-- How many nodes an inner graph has behind its first layer.
abbrev pub inner_total : Layered → ℕ
inner_total g = node_total g - first_at g.layers 1

-- How many nodes the graphs of one view of switch m have: its inner one behind its first layer, which looks at
-- the label of the outer one, and its bay's outer one.
abbrev pub view_nodes : BayOf → ViewOf → ℕ → ℕ
view_nodes bay view m = inner_total (graph_of bay view m) + node_total view.outer

-- How many nodes the four graphs of switch m have.
abbrev pub switch_nodes : Judging → ℕ → ℕ
switch_nodes j m =
    let bay = bay_at j (bay_of j.diagram m) in
    view_nodes bay bay.load m + view_nodes bay bay.gap m

-- In v the goal leads to the goal of a label that says what holds of switch m.
pub record ViewLeads (view : View) (d : Diagram) (parts : List PartLines) (nodes : List NodeLine) (v : List Bool)
    (m : ℕ) (goal : Goal) (ends : List Goal) : Type 0 where
  pub label : ℕ
  pub says : LabelSays view d m v label
  pub leads : LeadsToEnd parts nodes v goal ends label

-- In v the goals of the switch lead to the answers of the rules.
pub record SwitchIsExact (d : Diagram) (parts : List PartLines) (nodes : List NodeLine) (goals : SwitchGoals)
    (switch : ℕ) (v : List Bool) : Type 0 where
  pub answer : (op : Op) → op.switch.0 ≡ switch →
      (a : Option Rule) × Breaks d v op a × Leads (NextGoal parts nodes v) (goal_towards goals op.direction) (Answer a)

-- The goals are those of the first n switches, and lead through these nodes to the answers of the rules.
pub record AreGoalsOf (d : Diagram) (parts : List PartLines) (nodes : List NodeLine) (n : ℕ)
    (ops : List SwitchGoals) : Type 0 where
  pub count : length ops ≡ n
  pub exact : (switch : ℕ) (goals : SwitchGoals) (v : List Bool) → slice_get ops switch ≡ Some goals → IsVector d v →
      SwitchIsExact d parts nodes goals switch v
  pub fit : OpsFit (length nodes) ops
  pub grew : AllGrew (length d.switches) parts nodes

-- A part has as many step lines as the distinct contractions before each of its switches, so many in all.
abbrev pub HaveFewSteps : Diagram → EquationLines → Type 0
HaveFewSteps d e = (part : ℕ) (x : PartLines) → slice_get e.parts part ≡ Some x → AreStepSizes d part (length x.steps)
