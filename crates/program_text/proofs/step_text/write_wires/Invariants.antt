use Rattle.std.proofs.Common.{◌≡◌, ◌++◌, drop}
use Rattle.program_text.specs.ProgramText.{more_wires, wires_text}
use Rattle.program_text.proofs.step_text.write_wires.Given as goal

abbrev pub invariant-loop-i : goal.invariant-loop-i
invariant-loop-i l =
    l.text ++ more_wires l.station.switch_paths l.call (drop l.i l.names)
    ≡ l.fn.text ++ wires_text l.station.switch_paths l.call l.names
