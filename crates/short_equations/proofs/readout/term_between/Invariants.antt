use Rattle.interlock_terms.specs.Terms.{Grew}
use Rattle.short_equations.specs.Edges.{MeansWay}
use Rattle.short_equations.proofs.readout.term_between.Given as goal

abbrev pub invariant-loop-i : goal.invariant-loop-i
invariant-loop-i l =
    Grew l.initial.terms l.terms
    × MeansWay l.terms l.edges l.i l.first.0 l.second.0 l.found
