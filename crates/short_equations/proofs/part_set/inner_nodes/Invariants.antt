use Rattle.std.proofs.Common.{◌≡◌, ◌<◌, ℕ, slice_get, Some}
use Rattle.ilk_base.specs.declared.words.NodeId.{NodeId}
use Rattle.short_equations.specs.declared.edge.TheConstants.{FIRST_MARK}
use Rattle.short_equations.specs.Fragments.{AreInner}
use Rattle.short_equations.proofs.part_set.inner_nodes.Given as goal

abbrev pub invariant-loop-n : goal.invariant-loop-n
invariant-loop-n l =
    AreInner l.station l.set l.nodes.items
    × ((i : ℕ) (n : NodeId) → slice_get l.nodes.items i ≡ Some n → n.0 < FIRST_MARK)
