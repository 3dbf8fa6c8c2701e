use Rattle.std.proofs.Common.{◌≡◌, ◌<◌, ℕ, length, slice_get, Some, sym, subst}
use Rattle.ilk_base.specs.declared.words.NodeId.{NodeId}
use Rattle.short_equations.specs.declared.edge.TheConstants.{FIRST_MARK}
use Rattle.short_equations.specs.Edges.{AddsAll, StandsFor}
use Rattle.short_equations.proofs.FragmentLemmas.{composes}
use Rattle.short_equations.proofs.fragment.compose.Goals as goal

pub eliminate_all-requires-clause-nodes : goal.eliminate_all-requires-clause-nodes
eliminate_all-requires-clause-nodes c =
    subst (λ ns. (i : ℕ) (n : NodeId) → slice_get ns i ≡ Some n → n.0 < FIRST_MARK) (sym c.deref-3.ensures.value)
    c.in_ok-nodes.ensures.small

pub returns-clause-composed : goal.returns-clause-composed
returns-clause-composed c =
    let one = c.add_all.new.terms in
    let two = c.eliminate_all.new.terms in
    let first = c.args.first.now in
    let second = c.args.second.now in
    let mid = c.add_all.new.edges.items in
    let new = c.in_ok-left.left.items in
    let nodes = c.in_ok-nodes.nodes.items in
    let adds : AddsAll one first second (length second) mid =
    subst (λ es. AddsAll one es second (length second) mid) c.in_ok-edges.ensures.items c.in_ok-add_all.ensures.adds in
    let stands : StandsFor two nodes (length nodes) mid new =
    subst (λ es. StandsFor two nodes (length nodes) es new) c.deref-2.ensures.value
    (subst (λ ns. StandsFor two ns (length ns) c.deref-2.result.now new) c.deref-3.ensures.value
    c.in_ok-left.ensures.stands) in
    composes c.args.station.now c.args.set one two c.in_ok-left.ensures.grew first second mid new nodes adds
    c.in_ok-nodes.ensures.inner stands
