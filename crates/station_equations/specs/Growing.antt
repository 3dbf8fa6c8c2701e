-- Nodes that are built from the last to the first: each leads to nodes that were built before it.
use Rattle.std.specs.Prelude.{◌≡◌, ◌<◌, ◌≤◌, ◌+◌, ◌-◌, ℕ, suc, Bool, List, length, drop, map, slice_get, Some}
use Rattle.decision_graphs.specs.Label.{Layer, Layered, layer_at, step, leads}
use Rattle.station_equations.specs.declared.goal.Goal.{Goal}
use Rattle.station_equations.specs.declared.goal.Goal.TheVariants.{Node, Answer}
use Rattle.station_equations.specs.declared.goal.SwitchGoals.{SwitchGoals}
use Rattle.station_equations.specs.declared.subject.Subject.{Subject}
use Rattle.station_equations.specs.declared.subject.Subjects.{Subjects}
use Rattle.station_equations.specs.EquationLines.{PartLines, NodeLine, part_node, switch_node}
use Rattle.station_equations.specs.EquationMeaning.{Leads, NextGoal}
use Rattle.station_equations.specs.EquationForm.{IsGoal, LeadsBy, goals_of}
use Rattle.station_equations.specs.Subjects.{subject_at, IsChosen, HasChoices, AreChosenFrom}

-- All goals are answers or among the first n nodes.
abbrev pub AreGoals : ℕ → List Goal → Type 0
AreGoals n goals = (i : ℕ) (g : Goal) → slice_get goals i ≡ Some g → IsGoal n g

-- Each node leads on by a part or a switch, to nodes before it.
pub record GrewFrom (switches : ℕ) (parts : List PartLines) (n : ℕ) (x : NodeLine) : Type 0 where
  pub by : LeadsBy switches parts x
  pub goals : AreGoals n (goals_of x)

-- Each node is one that grew so.
abbrev pub AllGrew : ℕ → List PartLines → List NodeLine → Type 0
AllGrew switches parts nodes = (n : ℕ) (x : NodeLine) → slice_get nodes n ≡ Some x → GrewFrom switches parts n x

-- The layers from one on have a choice for each choice of what they look at.
abbrev pub LayersHaveChoices : ℕ → List PartLines → Subjects → Layered → ℕ → Type 0
LayersHaveChoices switches parts subjects g from =
    (j : ℕ) → from ≤ j → j < length g.layers →
    HasChoices switches parts (subject_at subjects j) (layer_at g.layers j).choices

-- The edges of node k of layer j lead to these goals, where `next` has a goal for each place behind the layer.
pub record LeadToGoals (g : Layered) (j k : ℕ) (next goals : List Goal) : Type 0 where
  pub count : length goals ≡ (layer_at g.layers j).choices
  pub each : (c : ℕ) (goal : Goal) → slice_get goals c ≡ Some goal →
      slice_get next (step (layer_at g.layers j) k c) ≡ Some goal

-- In v the goal leads on to the last of these goals that has this place.
pub record LeadsToEnd (parts : List PartLines) (nodes : List NodeLine) (v : List Bool) (goal : Goal) (ends : List Goal)
    (place : ℕ) : Type 0 where
  pub end : Goal
  pub listed : slice_get ends place ≡ Some end
  pub leads : Leads (NextGoal parts nodes v) goal end

-- In each vector the goals of the nodes of a layer lead to the goals of the places behind it to which a
-- choice leads.
abbrev pub LayerLeads : List NodeLine → Subject → Layer → List Goal → List Goal → Type 0
LayerLeads nodes subject l next goals =
    (parts : List PartLines) (v : List Bool) (k c : ℕ) (goal : Goal) → slice_get goals k ≡ Some goal →
    IsChosen parts v subject c → c < l.choices
    → LeadsToEnd parts nodes v goal next (step l k c)

-- In each vector the goals of the nodes of layer j lead to the goals of the labels to which the choices lead.
abbrev pub AllLead : List NodeLine → Subjects → Layered → ℕ → List Goal → List Goal → Type 0
AllLead nodes subjects g j goals ends =
    (parts : List PartLines) (v : List Bool) (k : ℕ) (goal : Goal) (cs : List ℕ) → slice_get goals k ≡ Some goal →
    j + length cs ≡ length g.layers → AreChosenFrom parts v subjects g j cs
    → LeadsToEnd parts nodes v goal ends (leads (drop j g.layers) k cs)

-- The goals that stand for a place of nodes counted from the other end.
abbrev pub turned_goal : ℕ → Goal → Goal
turned_goal total (Node n) = Node (total - suc n)
turned_goal total (Answer a) = Answer a

-- The line of a node with its goals turned.
abbrev pub turned_line : ℕ → NodeLine → NodeLine
turned_line total (part_node part goals) = part_node part (map (turned_goal total) goals)
turned_line total (switch_node switch off on) = switch_node switch (turned_goal total off) (turned_goal total on)

-- Both goals of a switch, turned.
abbrev pub turned_goals : ℕ → SwitchGoals → SwitchGoals
turned_goals total x = record { opening = turned_goal total x.opening; closing = turned_goal total x.closing }

-- The second nodes are the first ones from the last to the first, with their goals turned.
pub record IsTurned (nodes turned : List NodeLine) : Type 0 where
  pub count : length turned ≡ length nodes
  pub each : (n : ℕ) (x : NodeLine) → slice_get nodes n ≡ Some x →
      slice_get turned (length nodes - suc n) ≡ Some (turned_line (length nodes) x)
