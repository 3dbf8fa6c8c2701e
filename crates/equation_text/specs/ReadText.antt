-- What is read of a text.
use Rattle.std.specs.Prelude.{◌≡◌, ℕ, List, length, map, slice_get, Some}
use Rattle.station_graph.specs.Diagram.{Diagram, part_count}
use Rattle.station_equations.specs.declared.goal.SwitchGoals.{SwitchGoals}
use Rattle.station_equations.specs.declared.goal.TheConstants.{NUMBERS}
use Rattle.station_equations.specs.EquationLines.{PartLines, NodeLine, EquationLines, goal_count}
use Rattle.station_equations.specs.EquationForm.{IsTarget}
use Rattle.station_equations.specs.EquationText.{IsTextOf, lines_of, text_of}
use Rattle.equation_text.specs.Reading.{MayBeSteps, MayBeOps, MayBeNodes}

-- Parts that begin at targets that can be written, and have steps that they may have.
pub record MayBeParts (d : Diagram) (parts : List PartLines) : Type 0 where
  pub count : length parts ≡ part_count d
  pub starts : (p : ℕ) (x : PartLines) → slice_get parts p ≡ Some x → IsTarget NUMBERS x.start
  pub steps : (p : ℕ) (x : PartLines) → slice_get parts p ≡ Some x → MayBeSteps d p x.steps

-- The text is that of these lines, each of which is of its form but for numbers that no line defines; and no
-- other lines have it.
pub record AreLines (d : Diagram) (text : List ℕ) (parts : List PartLines) (ops : List SwitchGoals)
    (nodes : List NodeLine) : Type 0 where
  pub parts_may : MayBeParts d parts
  pub ops_may : MayBeOps (length d.switches) ops
  pub nodes_may : MayBeNodes (length d.switches) (map goal_count parts) nodes
  pub is : text ≡ text_of (lines_of d (record { parts = parts; ops = ops; nodes = nodes }))
  pub once : (e : EquationLines) → IsTextOf d text e → e ≡ record { parts = parts; ops = ops; nodes = nodes }
