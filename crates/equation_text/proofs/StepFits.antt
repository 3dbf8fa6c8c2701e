-- What a step may be, and what its words can say.
use Rattle.std.proofs.Common.{ℕ, ◌<◌, ◌≤◌, arith}
use Rattle.station_graph.specs.Diagram.{Diagram, IsStation}
use Rattle.part_alphabets.specs.declared.fork.PartStep.{PartStep}
use Rattle.equation_text.specs.Beginnings.{MayBeStep, IsTest}
use Rattle.station_equations.specs.declared.goal.TheConstants.{NUMBERS}
use Rattle.station_equations.specs.EquationText.{step_line}
use Rattle.equation_text.specs.Words.{Lacks}
use Rattle.equation_text.proofs.OnceLemmas.{any_target, step_lacks}

pub test_of : (d : Diagram) (part m : ℕ) (s : PartStep) → IsStation d → MayBeStep d part m s → IsTest s
test_of d part m s station may = record {
  switch = omega (arith, may.fits.switch, station.items.switches_few);
  off = any_target m s.off may.fits.off;
  on = any_target m s.on may.fits.on;
}

pub may_lacks : (d : Diagram) (part m : ℕ) (s : PartStep) → m ≤ NUMBERS → IsStation d → MayBeStep d part m s
    → Lacks 10 (step_line part m s)
may_lacks d part m s small_m station may =
    let own = may.own in
    let small_part : part < NUMBERS = omega (
      arith,
      (station.items.switches_fit s.switch.0 own.0 own.1).part_in,
      own.2,
      station.items.parts_few,
    ) in
    let test = test_of d part m s station may in
    step_lacks part m s small_part small_m (omega (arith, test.switch)) test.off test.on
