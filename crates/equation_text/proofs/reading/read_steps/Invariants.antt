use Rattle.std.proofs.Common.{◌≡◌, ◌++◌, ℕ, length, Some}
use Rattle.std.specs.Prelude.{slice_get}
use Rattle.station_equations.specs.EquationText.{text_of}
use Rattle.part_alphabets.specs.declared.fork.PartStep.{PartStep}
use Rattle.equation_text.specs.Beginnings.{MayBeStep}
use Rattle.equation_text.specs.Reading.{step_lines}
use Rattle.equation_text.proofs.reading.read_steps.Given as goal

abbrev pub invariant-loop-step : goal.invariant-loop-step
invariant-loop-step l =
    record {
      count : length l.steps.items ≡ l.m;
      each : (m : ℕ) (s : PartStep) → slice_get l.steps.items m ≡ Some s → MayBeStep l.station l.part.0 m s;
      sound : l.fn.left.text.now ≡ text_of (step_lines l.part.0 l.steps.items) ++ l.left.text.now;
    }

abbrev pub decreases-loop-step : goal.decreases-loop-step
decreases-loop-step l = length l.left.text.now
