-- The meaning of an equation text: the answer to which its lines lead, for each operation and vector.
use Rattle.std.specs.Prelude.{◌≡◌, ℕ, Bool, true, false, List, [], ◌∷◌, slice_get, Option, Some}
use Rattle.ilk_base.specs.declared.words.Op.{Op}
use Rattle.ilk_base.specs.declared.words.Rule.{Rule}
use Rattle.part_alphabets.specs.declared.fork.Target.{Target}
use Rattle.part_alphabets.specs.declared.fork.Target.TheVariants.{Step, Index}
use Rattle.part_alphabets.specs.declared.fork.PartStep.{PartStep}
use Rattle.station_equations.specs.declared.goal.Goal.{Goal}
use Rattle.station_equations.specs.declared.goal.Goal.TheVariants.{Node, Answer}
use Rattle.station_equations.specs.declared.goal.SwitchGoals.{SwitchGoals}
use Rattle.station_equations.specs.EquationLines.{PartLines, NodeLine, part_node, switch_node, EquationLines}
use Rattle.station_equations.specs.EquationLines.{goal_towards}

-- The list begins at a and ends at b, and each of its entries is followed by the next. It is written as a
-- and what comes after it.
abbrev pub PassesThrough : {X : Type 0} → (X → X → Type 0) → X → List X → X → Type 0
PassesThrough Next a [] b = a ≡ b
PassesThrough Next a (c ∷ rest) b = Next a c × PassesThrough Next c rest b

-- There is such a list.
pub record Leads {X : Type 0} (Next : X → X → Type 0) (a b : X) : Type 0 where
  pub after : List X
  pub passes : PassesThrough Next a after b

-- Where a step leads by the position of its switch.
abbrev pub step_target : PartStep → Bool → Target
step_target s false = s.off
step_target s true = s.on

-- In v step m leads on to this target.
pub record StepLeads (steps : List PartStep) (v : List Bool) (m : ℕ) (t : Target) : Type 0 where
  pub step : PartStep
  pub closed : Bool
  pub listed : slice_get steps m ≡ Some step
  pub position : slice_get v step.switch.0 ≡ Some closed
  pub to : step_target step closed ≡ t

-- In v the one target is followed by the other. No target follows an index.
abbrev pub NextTarget : List PartStep → List Bool → Target → Target → Type 0
NextTarget steps v (Step m) t = StepLeads steps v m t
NextTarget steps v (Index i) t = ⊥

-- In v the steps of the part lead to this index.
abbrev pub LeadsToIndex : PartLines → List Bool → ℕ → Type 0
LeadsToIndex x v i = Leads (NextTarget x.steps v) x.start (Index i)

-- The goal of the index to which the part's steps lead in v.
pub record PartLeads (parts : List PartLines) (v : List Bool) (part : ℕ) (goals : List Goal) (g : Goal) : Type 0 where
  pub lines : PartLines
  pub index : ℕ
  pub listed : slice_get parts part ≡ Some lines
  pub leads : LeadsToIndex lines v index
  pub to : slice_get goals index ≡ Some g

-- One of two goals, by the position of a switch.
abbrev pub goal_at : Goal → Goal → Bool → Goal
goal_at off on false = off
goal_at off on true = on

-- The goal of the position of the switch in v.
pub record SwitchLeads (v : List Bool) (switch : ℕ) (off on g : Goal) : Type 0 where
  pub position : Bool
  pub stands : slice_get v switch ≡ Some position
  pub to : goal_at off on position ≡ g

-- In v the line leads on to this goal.
abbrev pub LineLeads : List PartLines → List Bool → NodeLine → Goal → Type 0
LineLeads parts v (part_node part goals) g = PartLeads parts v part goals g
LineLeads parts v (switch_node switch off on) g = SwitchLeads v switch off on g

-- In v node n leads on to this goal.
pub record NodeLeads (parts : List PartLines) (nodes : List NodeLine) (v : List Bool) (n : ℕ) (g : Goal) : Type 0 where
  pub line : NodeLine
  pub listed : slice_get nodes n ≡ Some line
  pub leads : LineLeads parts v line g

-- In v the one goal is followed by the other. No goal follows an answer.
abbrev pub NextGoal : List PartLines → List NodeLine → List Bool → Goal → Goal → Type 0
NextGoal parts nodes v (Node n) g = NodeLeads parts nodes v n g
NextGoal parts nodes v (Answer a) g = ⊥

-- The meaning of the lines: in v the goal of the operation leads to this answer.
pub record Means (e : EquationLines) (op : Op) (v : List Bool) (answer : Option Rule) : Type 0 where
  pub goals : SwitchGoals
  pub listed : slice_get e.ops op.switch.0 ≡ Some goals
  pub leads : Leads (NextGoal e.parts e.nodes v) (goal_towards goals op.direction) (Answer answer)
