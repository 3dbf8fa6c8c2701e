use Rattle.std.proofs.Common.{◌≡◌, ◌<◌, ℕ, slice_get, Some}
use Rattle.structured_text.specs.declared.line.Line.{Line}
use Rattle.structured_text.specs.Reads.{FormulaReads}
use Rattle.program_text.specs.Places.{HaveRisen, IsSet}
use Rattle.program_text.proofs.reads.set_reads.Given as goal

abbrev pub invariant-loop-line : goal.invariant-loop-line
invariant-loop-line l =
    HaveRisen l.fn.places.items l.places.items
    × ((j : ℕ) (x : Line) → j < l.line-index → slice_get l.lines j ≡ Some x →
    FormulaReads (IsSet l.reading l.places.items) x.formula)
