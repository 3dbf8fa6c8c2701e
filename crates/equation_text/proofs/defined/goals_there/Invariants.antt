use Rattle.std.proofs.Common.{◌≡◌, ◌<◌, ℕ, Some}
use Rattle.std.specs.Prelude.{slice_get}
use Rattle.station_equations.specs.declared.goal.Goal.{Goal}
use Rattle.station_equations.specs.EquationForm.{IsGoal}
use Rattle.equation_text.proofs.defined.goals_there.Given as goal

abbrev pub invariant-loop-goal : goal.invariant-loop-goal
invariant-loop-goal l = (i : ℕ) (g : Goal) → i < l.goal-index → slice_get l.goals i ≡ Some g → IsGoal l.nodes g
