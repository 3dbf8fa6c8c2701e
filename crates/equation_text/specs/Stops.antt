-- Where a group of lines stops: how many of its lines were read, and that the next line is none of it.
use Rattle.std.specs.Prelude.{◌≡◌, ◌≢◌, ◌<◌, ◌++◌, ◌⊎◌, ℕ, List, ◌∷◌, length, codes}
use Rattle.ilk_base.specs.declared.words.Direction.{Direction}
use Rattle.ilk_base.specs.declared.words.Direction.TheVariants.{ToOff, ToOn}
use Rattle.station_graph.specs.Diagram.{Diagram}
use Rattle.part_alphabets.specs.declared.fork.Target.{Target}
use Rattle.station_equations.specs.declared.goal.SwitchGoals.{SwitchGoals}
use Rattle.station_equations.specs.declared.goal.TheConstants.{NUMBERS}
use Rattle.station_equations.specs.EquationLines.{PartLines, NodeLine, goal_towards}
use Rattle.station_equations.specs.EquationForm.{IsTarget, IsGoal}
use Rattle.station_equations.specs.EquationText.{part_line, op_line, node_line, text_of}
use Rattle.equation_text.specs.Beginnings.{MayBeNode}
use Rattle.equation_text.specs.Words.{Lacks}
use Rattle.equation_text.specs.Reading.{start_lines, op_lines, node_lines, MayBeStarts, MayBeOps, MayBeNodes}
use Rattle.equation_text.specs.Faults.{EndsInLf, IsWrongAt}

-- The old text begins with whole lines of these, and the next of them does not follow.
pub record StopsIn (lines old new : List ℕ) : Type 0 where
  pub before : List ℕ
  pub whole : EndsInLf before
  pub line : List ℕ
  pub lacks : Lacks 10 line
  pub more : List ℕ
  pub is : lines ≡ before ++ (line ++ 10 ∷ more)
  pub passed : old ≡ before ++ new
  pub other : (rest : List ℕ) → new ≢ line ++ 10 ∷ rest

-- The lines of some first parts of so many were read, and that of the next does not follow.
pub record StopsAtStart (parts : ℕ) (old new : List ℕ) : Type 0 where
  pub starts : List Target
  pub few : length starts < parts
  pub may : MayBeStarts (length starts) starts
  pub passed : old ≡ text_of (start_lines starts) ++ new
  pub none : (x : PartLines) (rest : List ℕ) → IsTarget NUMBERS x.start → new ≢ part_line (length starts) x ++ 10 ∷ rest

-- No line of this operation of the switch follows.
abbrev pub NoOp : Direction → ℕ → List ℕ → Type 0
NoOp direction s text = (x : SwitchGoals) (rest : List ℕ) → IsGoal NUMBERS (goal_towards x direction)
    → text ≢ op_line direction s x ++ 10 ∷ rest

-- The line of the switch's opening was read, and that of its closing does not follow.
pub record StopsBetween (s : ℕ) (old new : List ℕ) : Type 0 where
  pub goals : SwitchGoals
  pub fits : IsGoal NUMBERS goals.opening
  pub passed : old ≡ op_line ToOff s goals ++ 10 ∷ new
  pub none : NoOp ToOn s new

-- One of the two lines of the switch does not follow.
abbrev pub StopsAtOp : ℕ → List ℕ → List ℕ → Type 0
StopsAtOp s old new = ((old ≡ new) × NoOp ToOff s new) ⊎ StopsBetween s old new

-- The lines of some first switches of so many were read, and one of the next does not follow.
pub record StopsAtOps (switches : ℕ) (old new : List ℕ) : Type 0 where
  pub ops : List SwitchGoals
  pub few : length ops < switches
  pub may : MayBeOps (length ops) ops
  pub middle : List ℕ
  pub passed : old ≡ text_of (op_lines ops) ++ middle
  pub stop : StopsAtOp (length ops) middle new

-- The lines of some nodes were read, and neither that of the next follows nor the last line of the text.
pub record StopsAtNode (switches : ℕ) (counts old new : List ℕ) : Type 0 where
  pub nodes : List NodeLine
  pub may : MayBeNodes switches counts nodes
  pub passed : old ≡ text_of (node_lines nodes) ++ new
  pub none : (x : NodeLine) (rest : List ℕ) → MayBeNode switches counts (length nodes) x
      → new ≢ node_line (length nodes) x ++ 10 ∷ rest
  pub no_end : (rest : List ℕ) → new ≢ codes "end\n" ++ rest

-- What is left of the text begins with a line that cannot stand there.
pub record StopsWrong (d : Diagram) (text left : List ℕ) : Type 0 where
  pub before : List ℕ
  pub is : text ≡ before ++ left
  pub wrong : IsWrongAt d before left
