use Rattle.std.proofs.Common.{◌≡◌, ◌<◌, ℕ, slice_get, Some}
use Rattle.std.specs.Prelude.{◌⊎◌}
use Rattle.std.specs.List.{Contains}
use Rattle.structured_text.specs.declared.line.Line.{Line}
use Rattle.program_blocks.proofs.within.are_declared.Given as goal

abbrev pub invariant-loop-line : goal.invariant-loop-line
invariant-loop-line l =
    (k : ℕ) (x : Line) → k < l.line-index → slice_get l.block.lines.items k ≡ Some x →
    Contains l.block.outputs.items x.name ⊎ Contains l.block.locals.items x.name
