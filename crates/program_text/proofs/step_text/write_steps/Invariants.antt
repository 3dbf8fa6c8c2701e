use Rattle.std.proofs.Common.{◌≡◌, ◌++◌, ◌≤◌, drop}
use Rattle.program_text.specs.ProgramText.{steps_text}
use Rattle.program_text.proofs.step_text.write_steps.Given as goal

abbrev pub invariant-loop-step : goal.invariant-loop-step
invariant-loop-step l =
    (l.text ++ steps_text l.station l.blocks l.instance (drop l.step-index l.steps)
    ≡ l.fn.text ++ steps_text l.station l.blocks 0 l.steps)
    × (l.instance ≤ l.step-index)
