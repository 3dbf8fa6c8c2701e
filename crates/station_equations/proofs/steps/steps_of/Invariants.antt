use Rattle.std.proofs.Common.{◌≡◌, ℕ, length, Some}
use Rattle.std.specs.Prelude.{slice_get}
use Rattle.part_alphabets.specs.declared.fork.PartStep.{PartStep}
use Rattle.station_equations.specs.Compiling.{IsPartStep}
use Rattle.station_equations.proofs.steps.steps_of.Given as goal

abbrev pub invariant-loop-i : goal.invariant-loop-i
invariant-loop-i l =
    record {
      count : length l.steps.items ≡ l.i;
      each : (m : ℕ) (s : PartStep) → slice_get l.steps.items m ≡ Some s → IsPartStep l.parts l.part.0 m s;
    }
