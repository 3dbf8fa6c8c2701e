use Rattle.std.proofs.Common.{◌≡◌, ◌<◌, ℕ, length, Some}
use Rattle.std.specs.Prelude.{slice_get}
use Rattle.part_alphabets.specs.declared.fork.PartStep.{PartStep}
use Rattle.station_equations.specs.EquationForm.{IsTarget}
use Rattle.equation_text.proofs.defined.steps_there.Given as goal

abbrev pub invariant-loop-step : goal.invariant-loop-step
invariant-loop-step l = (m : ℕ) (s : PartStep) → m < l.step-index → slice_get l.steps m ≡ Some s
    → IsTarget (length l.steps) s.off × IsTarget (length l.steps) s.on
