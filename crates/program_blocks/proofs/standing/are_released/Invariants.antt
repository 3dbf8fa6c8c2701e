use Rattle.std.proofs.Common.{◌≡◌, ◌<◌, ℕ, true, slice_get, Some}
use Rattle.structured_text.specs.declared.line.Line.{Line}
use Rattle.program_blocks.specs.Wiring.{IsGiven}
use Rattle.structured_text.specs.Order.{IsRelease}
use Rattle.program_blocks.proofs.standing.are_released.Given as goal

abbrev pub invariant-loop-line : goal.invariant-loop-line
invariant-loop-line l =
    (k : ℕ) (x : Line) → k < l.line-index → slice_get l.lines k ≡ Some x → IsRelease x.name → IsGiven true l.known x.name
