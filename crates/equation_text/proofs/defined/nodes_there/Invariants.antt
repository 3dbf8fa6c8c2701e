use Rattle.std.proofs.Common.{◌≡◌, ◌<◌, ℕ, length, Some}
use Rattle.std.specs.Prelude.{slice_get}
use Rattle.station_equations.specs.EquationLines.{NodeLine}
use Rattle.station_equations.specs.EquationForm.{goals_of}
use Rattle.equation_text.specs.Defined.{GoalsThere}
use Rattle.equation_text.proofs.defined.nodes_there.Given as goal

abbrev pub invariant-loop-node : goal.invariant-loop-node
invariant-loop-node l = (n : ℕ) (x : NodeLine) → n < l.node-index → slice_get l.nodes n ≡ Some x
    → GoalsThere (length l.nodes) (goals_of x)
