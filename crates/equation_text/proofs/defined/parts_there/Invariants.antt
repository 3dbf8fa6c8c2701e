use Rattle.std.proofs.Common.{◌≡◌, ◌<◌, ℕ, Some}
use Rattle.std.specs.Prelude.{slice_get}
use Rattle.station_equations.specs.EquationLines.{PartLines}
use Rattle.equation_text.specs.Defined.{PartThere}
use Rattle.equation_text.proofs.defined.parts_there.Given as goal

abbrev pub invariant-loop-part : goal.invariant-loop-part
invariant-loop-part l = (p : ℕ) (x : PartLines) → p < l.part-index → slice_get l.parts p ≡ Some x → PartThere x
