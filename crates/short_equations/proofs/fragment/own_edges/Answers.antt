use Rattle.std.proofs.Common.{◌≤◌, [], length, subst, arith}
use Rattle.short_equations.specs.declared.part_set.PartSet.TheVariants.{Only}
use Rattle.short_equations.specs.ItemEdges.{AddsSight}
use Rattle.short_equations.specs.PartItems.{PartBut}
use Rattle.short_equations.specs.Fragments.{ComposedOf}
use Rattle.short_equations.proofs.ChainLemmas.{stands_own}
use Rattle.short_equations.proofs.fragment.own_edges.Goals as goal

pub returns-clause-stands : goal.returns-clause-stands
returns-clause-stands c =
    let d = c.args.station.now in
    let skip = c.switch_count.result in
    let count = c.switch_count.ensures.count in
    let high : length d.switches ≤ skip = omega (arith, count) in
    let one = c.add_part.new.terms in
    let two = c.compose.new.terms in
    let edges = c.add_part.new.edges.items in
    let new = c.in_ok-left.left.items in
    let adds : AddsSight c.args.view one [] (PartBut d c.args.part.0 skip) d edges =
    subst (λ es. AddsSight c.args.view one es (PartBut d c.args.part.0 skip) d edges) c.new-edges.ensures.items
    c.in_ok-add_part.ensures.adds in
    let composed : ComposedOf d (Only c.args.part) two edges [] new =
    subst (λ es. ComposedOf d (Only c.args.part) two edges es new) c.new-none.ensures.items
    (subst (λ es. ComposedOf d (Only c.args.part) two edges es new) c.deref-2.ensures.value
    (subst (λ es. ComposedOf d (Only c.args.part) two es c.deref-2.result.now new) c.deref.ensures.value
    c.in_ok-left.ensures.composed)) in
    stands_own c.args.view d c.switch_count.ensures.station one two c.in_ok-left.ensures.grew c.args.part skip high edges
    new adds composed
