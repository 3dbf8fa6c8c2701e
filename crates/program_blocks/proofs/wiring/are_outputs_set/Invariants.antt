use Rattle.std.proofs.Common.{◌≡◌, ◌<◌, ℕ, slice_get, Some}
use Rattle.structured_text.specs.declared.name.Name.{Name}
use Rattle.structured_text.specs.Order.{IsSetIn}
use Rattle.program_blocks.proofs.wiring.are_outputs_set.Given as goal

abbrev pub invariant-loop-name : goal.invariant-loop-name
invariant-loop-name l = (k : ℕ) (n : Name) → k < l.name-index → slice_get l.outputs k ≡ Some n → IsSetIn l.lines n
