-- The text of equations, line by line.
use Rattle.std.specs.Prelude.{◌≡◌, ◌++◌, ℕ, Bool, List, [], ◌∷◌, codes, decimal, Option, Some, None}
use Rattle.std.specs.List.{flat_map, enumerate_from}
use Rattle.ilk_base.specs.declared.words.Direction.{Direction}
use Rattle.ilk_base.specs.declared.words.Direction.TheVariants.{ToOff, ToOn}
use Rattle.ilk_base.specs.declared.words.Op.{Op}
use Rattle.ilk_base.specs.declared.words.Rule.{Rule}
use Rattle.station_graph.specs.Diagram.{Diagram}
use Rattle.central_rules.specs.Names.{rule_name, direction_name}
use Rattle.part_alphabets.specs.declared.fork.Target.{Target}
use Rattle.part_alphabets.specs.declared.fork.Target.TheVariants.{Step, Index}
use Rattle.part_alphabets.specs.declared.fork.PartStep.{PartStep}
use Rattle.station_equations.specs.declared.goal.Goal.{Goal}
use Rattle.station_equations.specs.declared.goal.Goal.TheVariants.{Node, Answer}
use Rattle.station_equations.specs.declared.goal.SwitchGoals.{SwitchGoals}
use Rattle.station_equations.specs.EquationLines.{PartLines, NodeLine, part_node, switch_node, EquationLines}
use Rattle.station_equations.specs.EquationLines.{goal_towards}
use Rattle.station_equations.specs.EquationMeaning.{Means}
use Rattle.station_equations.specs.EquationForm.{AreEquations}

-- A word with the blank before it.
abbrev pub then_word : List ℕ → List ℕ
then_word word = codes " " ++ word

-- A number with the blank before it.
abbrev pub then_number : ℕ → List ℕ
then_number n = codes " " ++ decimal n

-- A step's number, or `=I` for the index I.
abbrev pub target_text : Target → List ℕ
target_text (Step n) = decimal n
target_text (Index i) = codes "=" ++ decimal i

-- A node's number, `ok` where no rule is broken, else the rule.
abbrev pub goal_text : Goal → List ℕ
goal_text (Node n) = decimal n
goal_text (Answer None) = codes "ok"
goal_text (Answer (Some rule)) = rule_name rule

-- `switch S PATH`.
abbrev pub switch_line : ℕ → List ℕ → List ℕ
switch_line s path = codes "switch" ++ then_number s ++ then_word path

-- `part P START`.
abbrev pub part_line : ℕ → PartLines → List ℕ
part_line p x = codes "part" ++ then_number p ++ then_word (target_text x.start)

-- `step P M S A B`.
abbrev pub step_line : ℕ → ℕ → PartStep → List ℕ
step_line p m s =
    codes "step" ++ then_number p ++ then_number m ++ then_number s.switch.0 ++ then_word (target_text s.off)
    ++ then_word (target_text s.on)

-- `op S open T` or `op S close T`.
abbrev pub op_line : Direction → ℕ → SwitchGoals → List ℕ
op_line direction s x =
    codes "op" ++ then_number s ++ then_word (direction_name direction)
    ++ then_word (goal_text (goal_towards x direction))

-- What a node leads on by, and its goals: `part P` and a goal for each index, or `switch S A B`.
abbrev pub lead_text : NodeLine → List ℕ
lead_text (part_node part goals) =
    codes " part" ++ then_number part ++ flat_map (λ (g : Goal). then_word (goal_text g)) goals
lead_text (switch_node switch off on) =
    codes " switch" ++ then_number switch ++ then_word (goal_text off) ++ then_word (goal_text on)

-- `node N part P` and so on, or `node N switch S A B`.
abbrev pub node_line : ℕ → NodeLine → List ℕ
node_line n x = codes "node" ++ then_number n ++ lead_text x

-- The lines of each entry of a list, numbered from 0, one entry after another.
abbrev pub numbered : {X : Type 0} → (ℕ → X → List (List ℕ)) → List X → List (List ℕ)
numbered lines xs = flat_map (λ p. lines p.0 p.1) (enumerate_from 0 xs)

-- All lines, in their order.
abbrev pub lines_of : Diagram → EquationLines → List (List ℕ)
lines_of d e =
    (codes "equations" ∷ [])
    ++ numbered (λ s path. switch_line s path ∷ []) d.switch_paths
    ++ numbered (λ p x. part_line p x ∷ []) e.parts
    ++ numbered (λ p (x : PartLines). numbered (λ m s. step_line p m s ∷ []) x.steps) e.parts
    ++ numbered (λ s x. op_line ToOff s x ∷ op_line ToOn s x ∷ []) e.ops
    ++ numbered (λ n x. node_line n x ∷ []) e.nodes
    ++ (codes "end" ∷ [])

-- Lines as a text: each ends with LF.
abbrev pub text_of : List (List ℕ) → List ℕ
text_of lines = flat_map (λ line. line ++ codes "\n") lines

-- The text says these lines about the station.
pub record IsTextOf (d : Diagram) (text : List ℕ) (e : EquationLines) : Type 0 where
  pub are : AreEquations d e
  pub is : text ≡ text_of (lines_of d e)

-- The meaning of a text: for an operation and a vector, the answer to which its lines lead.
pub record TextMeans (d : Diagram) (text : List ℕ) (op : Op) (v : List Bool) (answer : Option Rule) : Type 0 where
  pub lines : EquationLines
  pub says : IsTextOf d text lines
  pub means : Means lines op v answer
