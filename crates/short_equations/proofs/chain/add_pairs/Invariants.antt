use Rattle.interlock_terms.specs.Terms.{Grew}
use Rattle.short_equations.proofs.ChainSteps.{SetsBelow}
use Rattle.short_equations.proofs.chain.add_pairs.Given as goal

abbrev pub invariant-loop-i : goal.invariant-loop-i
invariant-loop-i l =
    Grew l.initial.terms l.terms
    × SetsBelow l.view l.station l.terms l.part.0 l.i l.initial.pairs.items l.pairs.items
