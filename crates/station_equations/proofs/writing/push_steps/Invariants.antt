use Rattle.std.proofs.Common.{◌≡◌, ◌++◌, ◌∷◌, [], take}
use Rattle.station_equations.specs.EquationText.{step_line, numbered, text_of}
use Rattle.station_equations.proofs.writing.push_steps.Given as goal

abbrev pub invariant-loop-i : goal.invariant-loop-i
invariant-loop-i l = l.text ≡ l.fn.text ++ text_of (numbered (λ m s. step_line l.part m s ∷ []) (take l.i l.steps))
