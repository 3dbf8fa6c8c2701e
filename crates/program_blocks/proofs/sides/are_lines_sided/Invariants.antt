use Rattle.std.proofs.Common.{◌≡◌, ◌<◌, ℕ, slice_get, Some}
use Rattle.structured_text.specs.declared.line.Line.{Line}
use Rattle.structured_text.specs.Sides.{IsSided}
use Rattle.program_blocks.proofs.sides.are_lines_sided.Given as goal

abbrev pub invariant-loop-line : goal.invariant-loop-line
invariant-loop-line l =
    (k : ℕ) (x : Line) → k < l.line-index → slice_get l.lines k ≡ Some x → IsSided x.name x.formula
