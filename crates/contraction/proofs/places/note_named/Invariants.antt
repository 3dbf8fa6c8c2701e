use Rattle.contraction.specs.Restricting.{NamedBelow}
use Rattle.contraction.proofs.places.note_named.Given as goal

abbrev pub invariant-loop-i : goal.invariant-loop-i
invariant-loop-i l = NamedBelow l.nodes l.i l.initial.named l.named
