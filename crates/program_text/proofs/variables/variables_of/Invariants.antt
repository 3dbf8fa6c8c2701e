use Rattle.std.proofs.Common.{◌≡◌, take}
use Rattle.program_text.specs.Unblocked.{set_variables}
use Rattle.program_text.proofs.variables.variables_of.Given as goal

abbrev pub invariant-loop-step : goal.invariant-loop-step
invariant-loop-step l = l.variables.items ≡ set_variables l.blocks (take l.step-index l.steps)
