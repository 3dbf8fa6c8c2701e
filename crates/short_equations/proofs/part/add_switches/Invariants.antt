use Rattle.interlock_terms.specs.Terms.{Grew}
use Rattle.short_equations.specs.Edges.{AreEdges}
use Rattle.short_equations.specs.ItemEdges.{AddsSight}
use Rattle.short_equations.specs.PartItems.{SwitchesBelow}
use Rattle.short_equations.proofs.part.add_switches.Given as goal

abbrev pub invariant-loop-i : goal.invariant-loop-i
invariant-loop-i l =
    Grew l.initial.terms l.terms
    × AreEdges l.edges.items
    × AddsSight l.view l.terms l.initial.edges.items (SwitchesBelow l.station l.part.0 l.skip.0 l.i) l.station l.edges.items
