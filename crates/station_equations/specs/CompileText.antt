-- The text of a station's equations.
use Rattle.std.specs.Prelude.{ℕ, List}
use Rattle.station_graph.specs.Diagram.{Diagram}
use Rattle.station_equations.specs.EquationLines.{EquationLines}
use Rattle.station_equations.specs.EquationText.{IsTextOf}
use Rattle.station_equations.specs.Compiling.{AreExact, HaveFewSteps}
use Rattle.station_equations.specs.NodeCount.{HaveFewNodes, HaveFewLines}

-- The text is one of the form, its meaning is what the rules say for every operation and vector, and its lines
-- are no more than the counted sizes of the station allow, those to which operations lead, and all.
pub record IsCompileText (d : Diagram) (text : List ℕ) : Type 0 where
  pub lines : EquationLines
  pub says : IsTextOf d text lines
  pub exact : AreExact d lines
  pub steps : HaveFewSteps d lines
  pub nodes : HaveFewNodes d lines
  pub all : HaveFewLines d lines
