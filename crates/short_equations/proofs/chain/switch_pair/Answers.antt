use Rattle.std.proofs.Common.{◌≡◌, ◌≢◌, ◌⊎◌, ◌<◌, ℕ, ap, length, slice_get, Some, sym, subst, ◌∙◌}
use Rattle.ilk_base.specs.declared.words.NodeId.{NodeId}
use Rattle.ilk_base.specs.declared.words.BayId.{BayId}
use Rattle.station_graph.specs.declared.items.Switch.{Switch}
use Rattle.station_graph.specs.Connection.{a_switch}
use Rattle.contraction.specs.Stands.{AllBut}
use Rattle.interlock_terms.proofs.TermLemmas.{grew_solves}
use Rattle.short_equations.specs.declared.edge.TheConstants.{FIRST_MARK}
use Rattle.short_equations.specs.declared.view.View.TheVariants.{Gap}
use Rattle.short_equations.specs.Edges.{StandsFor}
use Rattle.short_equations.specs.ItemEdges.{AddsSight}
use Rattle.short_equations.specs.PartItems.{PartBut}
use Rattle.short_equations.specs.Fragments.{StandsForItems}
use Rattle.short_equations.specs.Pairs.{IsReadout, IsExactPair}
use Rattle.short_equations.proofs.OtherNodes.{nodes_small}
use Rattle.short_equations.proofs.FragmentLemmas.{stands_grew}
use Rattle.short_equations.proofs.ChainLemmas.{stands_rest}
use Rattle.short_equations.proofs.PairLemmas.{pair_exact, first_end_low, far_end_low}
use Rattle.short_equations.proofs.chain.switch_pair.Goals as goal

pub eliminate_all-requires-clause-nodes : goal.eliminate_all-requires-clause-nodes
eliminate_all-requires-clause-nodes c =
    subst (λ ns. (i : ℕ) (n : NodeId) → slice_get ns i ≡ Some n → n.0 < FIRST_MARK) (sym c.deref-2.ensures.value)
    (nodes_small c.args.station.now c.switch-switch.ensures.station c.switch-switch.result.first.0
    c.far_end-second.result.0 c.in_ok-nodes.nodes.items c.in_ok-nodes.ensures)

pub read_pair-requires-clause-first : goal.read_pair-requires-clause-first
read_pair-requires-clause-first c =
    first_end_low c.args.station.now c.switch-switch.ensures.station c.switch-switch.result c.switch-switch.ensures.fits

pub read_pair-requires-clause-second : goal.read_pair-requires-clause-second
read_pair-requires-clause-second c =
    far_end_low c.args.station.now c.switch-switch.ensures.station c.switch-switch.result c.switch-switch.ensures.fits
    c.far_end-second.result c.far_end-second.ensures

pub returns-clause-exact : goal.returns-clause-exact
returns-clause-exact c = λ x at own.
    let d = c.args.station.now in
    let view = c.args.view in
    let i = c.args.id.0 in
    let station = c.switch-switch.ensures.station in
    let y = c.switch-switch.result in
    let listed = c.switch-switch.ensures.value in
    let same : y ≡ x = cc (listed, at) in
    let here : y.bay.0 ≡ c.args.part.0 =
    ap (λ (s : Switch). s.bay.0) same ∙ ap (λ (b : BayId). b.0) own in
    let q = c.far_end-second.result in
    let zero_terms = c.args.terms.now in
    let one = c.add_part.new.terms in
    let two = c.eliminate_all.new.terms in
    let three = c.read_pair.new.terms in
    let e = c.add_part.new.edges.items in
    let left = c.in_ok-left.left.items in
    let nodes = c.in_ok-nodes.nodes.items in
    let p = c.in_ok-pair.pair in
    let adds : AddsSight view one c.args.others.now (PartBut d c.args.part.0 i) d e =
    subst (λ es. AddsSight view one es (PartBut d c.args.part.0 i) d e) c.in_ok-edges.ensures.items
    c.in_ok-add_part.ensures.adds in
    let rest : StandsForItems view d two (AllBut (a_switch i)) e =
    stands_grew view d one two (AllBut (a_switch i)) e c.in_ok-left.ensures.grew
    (stands_rest view d station zero_terms one c.in_ok-add_part.ensures.grew i y listed c.args.part here c.args.others.now e
    c.requires.stands adds) in
    let stands : StandsFor two nodes (length nodes) e left =
    subst (λ es. StandsFor two nodes (length nodes) es left) c.deref.ensures.value
    (subst (λ ns. StandsFor two ns (length ns) c.deref.result.now left) c.deref-2.ensures.value
    c.in_ok-left.ensures.stands) in
    let reads : (view ≡ Gap) ⊎ (y.first.0 ≢ q.0) → IsReadout view three left y.first.0 q.0 p =
    subst (λ es. (view ≡ Gap) ⊎ (y.first.0 ≢ q.0) → IsReadout view three es y.first.0 q.0 p) c.deref-3.ensures.value
    c.in_ok-pair.ensures.reads in
    subst (λ (s : Switch). IsExactPair view d three i s p) same
    (pair_exact view d station i y listed q c.far_end-second.ensures two three e left nodes c.in_ok-nodes.ensures rest stands
    (λ v. grew_solves two three v c.in_ok-pair.ensures.grew) p reads)
