-- What the layers of a graph look at, and in which vectors a layer's choice is given.
use Rattle.std.specs.Prelude.{◌≡◌, ◌<◌, ◌≤◌, ◌+◌, ◌-◌, ◌==◌, ℕ, suc, Bool, List, [], ◌∷◌, length, slice_get, Some}
use Rattle.decision_graphs.specs.Label.{Layered, layer_at}
use Rattle.judge_pool.specs.Graphs.{other_of}
use Rattle.station_equations.specs.declared.subject.Subject.{Subject}
use Rattle.station_equations.specs.declared.subject.Subject.TheVariants.{Part, Switch}
use Rattle.station_equations.specs.declared.subject.Subjects.{Subjects}
use Rattle.station_equations.specs.declared.subject.Subjects.TheVariants.{OtherParts, OtherSwitches}
use Rattle.station_equations.specs.EquationLines.{PartLines, goal_count}
use Rattle.station_equations.specs.EquationMeaning.{LeadsToIndex}

-- What layer j looks at. The first layer of an inner graph looks at the label of the outer graph, and so at
-- no part or switch.
abbrev pub subject_at : Subjects → ℕ → Subject
subject_at (OtherParts bay) j = Part (record { 0 = other_of 0 bay.0 j })
subject_at (OtherSwitches first moved) j = Switch (record { 0 = other_of first.0 moved.0 (j - 1) })

-- The layer's number is one of so few parts, or of switches.
abbrev pub SubjectsFit : Subjects → ℕ → Type 0
SubjectsFit (OtherParts bay) j = j < 255
SubjectsFit (OtherSwitches first moved) j = (0 < j) × (first.0 + j < 65536)

-- In v the steps of the part lead to this index.
pub record IsIndexBy (parts : List PartLines) (v : List Bool) (part c : ℕ) : Type 0 where
  pub lines : PartLines
  pub listed : slice_get parts part ≡ Some lines
  pub leads : LeadsToIndex lines v c

-- In v the switch is open for choice 0, closed for choice 1.
pub record IsPositionOf (v : List Bool) (switch c : ℕ) : Type 0 where
  pub small : c < 2
  pub stands : slice_get v switch ≡ Some (c == 1)

-- In v this is the choice at the subject.
abbrev pub IsChosen : List PartLines → List Bool → Subject → ℕ → Type 0
IsChosen parts v (Part p) c = IsIndexBy parts v p.0 c
IsChosen parts v (Switch s) c = IsPositionOf v s.0 c

-- In v these are the choices of the layers of the graph from layer j on.
abbrev pub AreChosenFrom : List PartLines → List Bool → Subjects → Layered → ℕ → List ℕ → Type 0
AreChosenFrom parts v subjects g j [] = Unit {0}
AreChosenFrom parts v subjects g j (c ∷ cs) =
    IsChosen parts v (subject_at subjects j) c × (c < (layer_at g.layers j).choices)
    × AreChosenFrom parts v subjects g (suc j) cs

-- A part has so many indices in its lines.
pub record HasIndices (parts : List PartLines) (part n : ℕ) : Type 0 where
  pub lines : PartLines
  pub listed : slice_get parts part ≡ Some lines
  pub count : goal_count lines ≡ n

-- The subject has so many choices: the indices of a part, or the two positions of one of so many switches.
abbrev pub HasChoices : ℕ → List PartLines → Subject → ℕ → Type 0
HasChoices switches parts (Part p) n = HasIndices parts p.0 n
HasChoices switches parts (Switch s) n = (s.0 < switches) × (n ≡ 2)

-- A node that looks at a switch has two goals.
abbrev pub IsRowFor : Subject → ℕ → Type 0
IsRowFor (Part p) n = 0 < n
IsRowFor (Switch s) n = n ≡ 2

-- The layers from one on have choices for what they look at.
pub record LayersLook (subjects : Subjects) (g : Layered) (from : ℕ) : Type 0 where
  pub fit : (j : ℕ) → from ≤ j → j < length g.layers → SubjectsFit subjects j
  pub rows : (j : ℕ) → from ≤ j → j < length g.layers → IsRowFor (subject_at subjects j) (layer_at g.layers j).choices
