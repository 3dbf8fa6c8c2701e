use Rattle.std.proofs.Common.{◌≡◌, ◌++◌}
use Rattle.station_equations.specs.EquationText.{text_of}
use Rattle.equation_text.specs.Reading.{op_lines, MayBeOps}
use Rattle.equation_text.proofs.reading.read_ops.Given as goal

abbrev pub invariant-loop-switch : goal.invariant-loop-switch
invariant-loop-switch l =
    record {
      fits : MayBeOps l.switch l.ops.items;
      sound : l.fn.left.text.now ≡ text_of (op_lines l.ops.items) ++ l.left.text.now;
    }
