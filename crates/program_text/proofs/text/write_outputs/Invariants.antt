use Rattle.std.proofs.Common.{◌≡◌, ◌++◌, ◌-◌, length}
use Rattle.program_text.specs.ProgramText.{outputs_text}
use Rattle.program_text.proofs.text.write_outputs.Given as goal

abbrev pub invariant-loop-i : goal.invariant-loop-i
invariant-loop-i l =
    l.text ++ outputs_text l.station.switch_paths l.i (length l.station.switches - l.i)
    ≡ l.fn.text ++ outputs_text l.station.switch_paths 0 (length l.station.switches)
