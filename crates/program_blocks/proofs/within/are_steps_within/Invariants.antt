use Rattle.std.proofs.Common.{◌≡◌, ◌<◌, ℕ, slice_get, Some}
use Rattle.program_blocks.specs.declared.block.Step.{Step}
use Rattle.program_blocks.specs.Standing.{StepWithin}
use Rattle.program_blocks.proofs.within.are_steps_within.Given as goal

abbrev pub invariant-loop-step : goal.invariant-loop-step
invariant-loop-step l =
    (k : ℕ) (x : Step) → k < l.step-index → slice_get l.steps k ≡ Some x → StepWithin l.station l.blocks x
