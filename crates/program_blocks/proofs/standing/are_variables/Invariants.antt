use Rattle.std.proofs.Common.{◌≡◌, ◌<◌, ℕ, slice_get, Some}
use Rattle.std.specs.Prelude.{◌⊎◌}
use Rattle.std.specs.List.{Contains}
use Rattle.structured_text.specs.declared.name.Name.{Name}
use Rattle.structured_text.specs.Order.{IsRelease}
use Rattle.program_blocks.proofs.standing.are_variables.Given as goal

abbrev pub invariant-loop-name : goal.invariant-loop-name
invariant-loop-name l =
    (k : ℕ) (n : Name) → k < l.name-index → slice_get l.known k ≡ Some n → IsRelease n ⊎ Contains l.variables n
