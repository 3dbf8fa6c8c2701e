use Rattle.std.proofs.Common.{◌≡◌, ◌<◌, ℕ, slice_get, Some}
use Rattle.structured_text.specs.declared.line.Line.{Line}
use Rattle.structured_text.specs.Within.{LineWithin}
use Rattle.program_blocks.proofs.within.are_lines_within.Given as goal

abbrev pub invariant-loop-line : goal.invariant-loop-line
invariant-loop-line l = (k : ℕ) (x : Line) → k < l.line-index → slice_get l.lines k ≡ Some x → LineWithin l.station x
