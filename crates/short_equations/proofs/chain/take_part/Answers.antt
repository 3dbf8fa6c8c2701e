use Rattle.std.proofs.Common.{◌≡◌, ◌+◌, subst, sym}
use Rattle.ilk_base.specs.declared.words.BayId.{BayId}
use Rattle.interlock_terms.proofs.TermLemmas.{grew_on}
use Rattle.short_equations.specs.declared.part_set.PartSet.TheVariants.{Only, Below, From, But}
use Rattle.short_equations.specs.Edges.{AreEdges}
use Rattle.short_equations.specs.Fragments.{InParts, StandsForItems}
use Rattle.short_equations.proofs.FragmentLemmas.{stands_grew}
use Rattle.short_equations.proofs.ChainSets.{all_others, from_here}
use Rattle.short_equations.proofs.ChainSteps.{exact_from, from_grew}
use Rattle.short_equations.proofs.chain.take_part.Goals as goal

pub add_pairs-requires-clause-edges : goal.add_pairs-requires-clause-edges
add_pairs-requires-clause-edges c = subst AreEdges (sym c.deref.ensures.value) c.in_ok-others.ensures.edges

pub add_pairs-requires-clause-stands : goal.add_pairs-requires-clause-stands
add_pairs-requires-clause-stands c =
    let d = c.args.station.now in
    let view = c.args.view in
    let here : BayId = record { 0 = c.args.part } in
    let old = c.args.terms.now in
    let new = c.compose.new.terms in
    let before = c.args.before.now in
    let after = c.args.after.now in
    let grew = c.in_ok-others.ensures.grew in
    subst (λ es. StandsForItems view d new (InParts d (But here)) es) (sym c.deref.ensures.value)
    (all_others view d c.in_ok-others.ensures.station new here before after c.in_ok-others.others.items
    (stands_grew view d old new (InParts d (Below here.0)) before grew c.requires.before)
    (stands_grew view d old new (InParts d (From (here.0 + 1))) after grew c.requires.after)
    c.in_ok-others.ensures.composed)

pub returns-clause-grew : goal.returns-clause-grew
returns-clause-grew c = grew_on _ _ _ c.in_ok-others.ensures.grew
    (grew_on _ _ _ c.in_ok-add_pairs.ensures.grew c.in_ok-from_here.ensures.grew)

pub returns-clause-edges : goal.returns-clause-edges
returns-clause-edges c = c.in_ok-from_here.ensures.edges

pub returns-clause-stands : goal.returns-clause-stands
returns-clause-stands c =
    let d = c.args.station.now in
    let view = c.args.view in
    let here : BayId = record { 0 = c.args.part } in
    let old = c.args.terms.now in
    let new = c.compose-2.new.terms in
    let own = c.args.own.now in
    let after = c.args.after.now in
    let grew = grew_on _ _ _ c.in_ok-others.ensures.grew
    (grew_on _ _ _ c.in_ok-add_pairs.ensures.grew c.in_ok-from_here.ensures.grew) in
    from_here view d c.in_ok-from_here.ensures.station new here own after c.in_ok-from_here.from_here.items
    (stands_grew view d old new (InParts d (Only here)) own grew c.requires.own)
    (stands_grew view d old new (InParts d (From (here.0 + 1))) after grew c.requires.after)
    c.in_ok-from_here.ensures.composed

pub returns-clause-exact : goal.returns-clause-exact
returns-clause-exact c =
    let d = c.args.station.now in
    let view = c.args.view in
    let part = c.args.part in
    let pairs = c.add_pairs.new.pairs.items in
    from_grew view d c.add_pairs.new.terms c.compose-2.new.terms part pairs c.in_ok-from_here.ensures.grew
    (exact_from view d c.args.terms.now c.add_pairs.new.terms part c.args.pairs.now.items pairs
    (grew_on _ _ _ c.in_ok-others.ensures.grew c.in_ok-add_pairs.ensures.grew) c.requires.exact
    c.in_ok-add_pairs.ensures.sets)
