use Rattle.std.proofs.Common.{◌≡◌, ◌++◌, ◌∷◌, [], take}
use Rattle.station_equations.specs.EquationText.{switch_line, numbered, text_of}
use Rattle.station_equations.proofs.writing.push_switches.Given as goal

abbrev pub invariant-loop-i : goal.invariant-loop-i
invariant-loop-i l =
    l.text ≡ l.fn.text ++ text_of (numbered (λ s path. switch_line s path ∷ []) (take l.i l.station.switch_paths))
