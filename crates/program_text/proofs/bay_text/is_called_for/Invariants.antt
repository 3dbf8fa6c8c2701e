use Rattle.std.proofs.Common.{◌≡◌, drop}
use Rattle.program_text.specs.BayText.{is_called_for}
use Rattle.program_text.proofs.bay_text.is_called_for.Given as goal

abbrev pub invariant-loop-step : goal.invariant-loop-step
invariant-loop-step l = is_called_for l.bay.0 l.number (drop l.step-index l.steps) ≡ is_called_for l.bay.0 l.number l.steps
