use Rattle.std.proofs.Common.{◌≡◌, ◌++◌, ◌≤◌, drop}
use Rattle.program_text.specs.ProgramText.{instances_text}
use Rattle.program_text.proofs.step_text.write_instances.Given as goal

abbrev pub invariant-loop-step : goal.invariant-loop-step
invariant-loop-step l =
    (l.text ++ instances_text l.instance (drop l.step-index l.steps) ≡ l.fn.text ++ instances_text 0 l.steps)
    × (l.instance ≤ l.step-index)
