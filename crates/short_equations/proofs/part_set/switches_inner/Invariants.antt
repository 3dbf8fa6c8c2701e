use Rattle.short_equations.specs.Fragments.{SwitchesInner}
use Rattle.short_equations.proofs.part_set.switches_inner.Given as goal

abbrev pub invariant-loop-i : goal.invariant-loop-i
invariant-loop-i l = SwitchesInner l.station l.set l.node.0 l.i
