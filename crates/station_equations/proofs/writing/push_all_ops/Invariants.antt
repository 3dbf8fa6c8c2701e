use Rattle.std.proofs.Common.{◌≡◌, ◌++◌, ◌∷◌, [], take}
use Rattle.ilk_base.specs.declared.words.Direction.TheVariants.{ToOff, ToOn}
use Rattle.station_equations.specs.EquationText.{op_line, numbered, text_of}
use Rattle.station_equations.proofs.writing.push_all_ops.Given as goal

abbrev pub invariant-loop-i : goal.invariant-loop-i
invariant-loop-i l =
    l.text ≡ l.fn.text ++ text_of (numbered (λ s x. op_line ToOff s x ∷ op_line ToOn s x ∷ []) (take l.i l.ops))
