use Rattle.std.proofs.Common.{◌≡◌, ◌<◌, ℕ, Some}
use Rattle.std.specs.Prelude.{slice_get}
use Rattle.station_equations.specs.declared.goal.SwitchGoals.{SwitchGoals}
use Rattle.station_equations.specs.EquationForm.{SwitchGoalsFit}
use Rattle.equation_text.proofs.defined.ops_there.Given as goal

abbrev pub invariant-loop-goals : goal.invariant-loop-goals
invariant-loop-goals l = (i : ℕ) (x : SwitchGoals) → i < l.goals-index → slice_get l.ops i ≡ Some x
    → SwitchGoalsFit l.nodes x
