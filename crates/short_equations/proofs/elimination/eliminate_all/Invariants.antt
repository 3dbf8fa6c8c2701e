use Rattle.interlock_terms.specs.Terms.{Grew}
use Rattle.short_equations.specs.Edges.{AreEdges, StandsFor}
use Rattle.short_equations.proofs.elimination.eliminate_all.Given as goal

abbrev pub invariant-loop-i : goal.invariant-loop-i
invariant-loop-i l =
    Grew l.initial.terms l.terms
    × AreEdges l.left.items
    × StandsFor l.terms l.nodes l.i l.edges l.left.items
