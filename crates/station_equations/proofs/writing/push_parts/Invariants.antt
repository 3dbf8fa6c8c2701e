use Rattle.std.proofs.Common.{◌≡◌, ◌++◌, ◌∷◌, [], take}
use Rattle.station_equations.specs.EquationText.{part_line, numbered, text_of}
use Rattle.station_equations.proofs.writing.push_parts.Given as goal

abbrev pub invariant-loop-i : goal.invariant-loop-i
invariant-loop-i l = l.text ≡ l.fn.text ++ text_of (numbered (λ p x. part_line p x ∷ []) (take l.i l.parts))
