use Rattle.std.proofs.Common.{sym, subst}
use Rattle.contraction.specs.Answers.{AreNodes}
use Rattle.contraction.proofs.MergeLemmas.{merged_nodes, few_nodes}
use Rattle.contraction.proofs.layout.Layout.of.Goals as goal

pub places_of-requires : goal.places_of-requires
places_of-requires c =
    let u = c.in_ok-union.union in
    let nodes : AreNodes c.as_slice-all.result.now =
    subst AreNodes (sym c.as_slice-all.ensures.value)
    (merged_nodes c.args.first.now c.args.second.now u.kept.items u.first.items u.second.items c.requires.first
    c.requires.second c.in_ok-union.ensures) in
    record { few = few_nodes c.as_slice-all.result.now nodes; small = nodes.small }
