use Rattle.std.proofs.Common.{◌≡◌, ◌++◌}
use Rattle.station_equations.specs.EquationText.{text_of}
use Rattle.equation_text.specs.Reading.{start_lines, MayBeStarts}
use Rattle.equation_text.proofs.reading.read_starts.Given as goal

abbrev pub invariant-loop-part : goal.invariant-loop-part
invariant-loop-part l =
    record {
      fits : MayBeStarts l.part l.starts.items;
      sound : l.fn.left.text.now ≡ text_of (start_lines l.starts.items) ++ l.left.text.now;
    }
