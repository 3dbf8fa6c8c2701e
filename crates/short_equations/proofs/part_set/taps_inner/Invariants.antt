use Rattle.short_equations.specs.Fragments.{TapsInner}
use Rattle.short_equations.proofs.part_set.taps_inner.Given as goal

abbrev pub invariant-loop-i : goal.invariant-loop-i
invariant-loop-i l = TapsInner l.station l.set l.node.0 l.i
