use Rattle.interlock_terms.specs.Terms.{Grew}
use Rattle.short_equations.specs.Edges.{AreEdges, AddsAll}
use Rattle.short_equations.proofs.elimination.add_all.Given as goal

abbrev pub invariant-loop-i : goal.invariant-loop-i
invariant-loop-i l =
    Grew l.initial.terms l.terms
    × AreEdges l.edges.items
    × AddsAll l.terms l.initial.edges.items l.more l.i l.edges.items
