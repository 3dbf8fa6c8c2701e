use Rattle.std.proofs.Common.{◌≡◌, ◌++◌, ◌-◌, length}
use Rattle.program_text.specs.ProgramText.{inputs_text}
use Rattle.program_text.proofs.text.write_inputs.Given as goal

abbrev pub invariant-loop-i : goal.invariant-loop-i
invariant-loop-i l =
    l.text ++ inputs_text l.station.switch_paths l.i (length l.station.switches - l.i)
    ≡ l.fn.text ++ inputs_text l.station.switch_paths 0 (length l.station.switches)
