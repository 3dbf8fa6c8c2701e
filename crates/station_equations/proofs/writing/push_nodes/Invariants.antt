use Rattle.std.proofs.Common.{◌≡◌, ◌++◌, ◌∷◌, [], take}
use Rattle.station_equations.specs.EquationText.{node_line, numbered, text_of}
use Rattle.station_equations.proofs.writing.push_nodes.Given as goal

abbrev pub invariant-loop-i : goal.invariant-loop-i
invariant-loop-i l = l.text ≡ l.fn.text ++ text_of (numbered (λ n x. node_line n x ∷ []) (take l.i l.nodes))
