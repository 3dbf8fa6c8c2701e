use Rattle.std.proofs.Common.{◌≡◌, ◌<◌, ℕ, Some}
use Rattle.std.specs.Prelude.{slice_get}
use Rattle.station_equations.specs.declared.goal.Goal.{Goal}
use Rattle.station_equations.proofs.rows.only.Given as goal

abbrev pub invariant-loop-goal : goal.invariant-loop-goal
invariant-loop-goal l = (i : ℕ) (x : Goal) → i < l.goal-index → slice_get l.goals i ≡ Some x → x ≡ l.first
