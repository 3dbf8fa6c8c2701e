use Rattle.std.proofs.Common.{◌≡◌, ◌<◌, ℕ, true, slice_get, Some}
use Rattle.structured_text.specs.declared.name.Name.{Name}
use Rattle.program_blocks.specs.Renaming.{outer}
use Rattle.program_blocks.specs.Wiring.{IsGiven}
use Rattle.program_blocks.proofs.wiring.are_inputs_known.Given as goal

abbrev pub invariant-loop-name : goal.invariant-loop-name
invariant-loop-name l =
    (k : ℕ) (n : Name) → k < l.name-index → slice_get l.inputs k ≡ Some n → IsGiven true l.known (outer l.call n)
