use Rattle.short_equations.specs.Fragments.{LinksInner}
use Rattle.short_equations.proofs.part_set.links_inner.Given as goal

abbrev pub invariant-loop-i : goal.invariant-loop-i
invariant-loop-i l = LinksInner l.station l.set l.node.0 l.i
