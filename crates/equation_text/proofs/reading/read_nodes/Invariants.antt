use Rattle.std.proofs.Common.{◌≡◌, ◌<◌, ◌++◌, ℕ, length, Some}
use Rattle.std.specs.Prelude.{slice_get}
use Rattle.station_equations.specs.declared.goal.TheConstants.{NUMBERS}
use Rattle.station_equations.specs.EquationText.{text_of}
use Rattle.station_equations.specs.EquationLines.{NodeLine}
use Rattle.equation_text.specs.Beginnings.{MayBeNode}
use Rattle.equation_text.specs.Reading.{node_lines}
use Rattle.equation_text.proofs.reading.read_nodes.Given as goal

abbrev pub invariant-loop-rest : goal.invariant-loop-rest
invariant-loop-rest l =
    record {
      few : length l.nodes.items < NUMBERS;
      each : (n : ℕ) (x : NodeLine) → slice_get l.nodes.items n ≡ Some x → MayBeNode l.switches l.counts n x;
      sound : l.fn.left.text.now ≡ text_of (node_lines l.nodes.items) ++ l.left.text.now;
    }

abbrev pub decreases-loop-rest : goal.decreases-loop-rest
decreases-loop-rest l = length l.left.text.now
