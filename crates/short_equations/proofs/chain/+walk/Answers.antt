use Rattle.std.proofs.Common.{◌∙◌, ◌≡◌, ◌+◌, subst, sym, arith}
use Rattle.std.proofs.lemmas.Result.{on_ok_weaker}
use Rattle.ilk_base.specs.declared.words.BayId.{BayId}
use Rattle.station_graph.specs.Diagram.{part_count}
use Rattle.interlock_terms.proofs.TermLemmas.{grew_on}
use Rattle.short_equations.specs.declared.part_set.PartSet.TheVariants.{Only, Below, From}
use Rattle.short_equations.specs.Edges.{AreEdges}
use Rattle.short_equations.specs.Fragments.{InParts, StandsForItems, ComposedOf}
use Rattle.short_equations.proofs.FragmentLemmas.{stands_grew}
use Rattle.short_equations.proofs.ChainLemmas.{stands_nobody, none_from, no_switch_from}
use Rattle.short_equations.proofs.ChainSets.{one_more}
use Rattle.short_equations.proofs.chain.+walk.Goals as goal

pub walk-requires : goal.walk-requires
walk-requires t c =
    let d = c.args.station.now in
    let view = c.args.view in
    let here : BayId = record { 0 = c.args.part } in
    let zero_terms = c.args.terms.now in
    let one = c.own_edges.new.terms in
    let two = c.compose.new.terms in
    let before = c.args.before.now in
    let own = c.in_ok-own.own.items in
    let new = c.in_ok-so_far.so_far.items in
    let composed : ComposedOf d (Below (here.0 + 1)) two before own new =
    subst (λ es. ComposedOf d (Below (here.0 + 1)) two before es new) c.deref.ensures.value
    c.in_ok-so_far.ensures.composed in
    let count = c.part_count.ensures.count in
    let ne = c.if-part-part_count.false in
    let high = c.requires.part in
    let decreases = c.decreases in
    let stands : StandsForItems view d two (InParts d (Below (here.0 + 1))) c.deref-2.result.now =
    subst (λ es. StandsForItems view d two (InParts d (Below (here.0 + 1))) es) (sym c.deref-2.ensures.value)
    (one_more view d c.in_ok-so_far.ensures.station two here before own new
    (stands_grew view d zero_terms two (InParts d (Below here.0)) before
    (grew_on _ _ _ c.in_ok-own.ensures.grew c.in_ok-so_far.ensures.grew) c.requires.stands)
    (stands_grew view d one two (InParts d (Only here)) own c.in_ok-so_far.ensures.grew c.in_ok-own.ensures.stands)
    composed) in (
      omega (arith, count, ne, high, decreases),
      (
        omega (arith, count, ne, high),
        (subst AreEdges (sym c.deref-2.ensures.value) c.in_ok-so_far.ensures.edges, (stands, c.requires.room)),
      ),
    )

pub take_part-requires-clause-own_edges : goal.take_part-requires-clause-own_edges
take_part-requires-clause-own_edges t c = subst AreEdges (sym c.deref-3.ensures.value) c.in_ok-own.ensures.edges

pub take_part-requires-clause-after_edges : goal.take_part-requires-clause-after_edges
take_part-requires-clause-after_edges t c = subst AreEdges (sym c.deref-4.ensures.value) c.in_ok-after.ensures.edges

pub take_part-requires-clause-before : goal.take_part-requires-clause-before
take_part-requires-clause-before t c =
    let grew = grew_on _ _ _ c.in_ok-own.ensures.grew
    (grew_on _ _ _ c.in_ok-so_far.ensures.grew c.in_ok-after.ensures.grew) in
    stands_grew c.args.view c.args.station.now c.args.terms.now c.walk.new.terms (InParts c.args.station.now
    (Below c.args.part)) c.args.before.now grew c.requires.stands

pub take_part-requires-clause-own : goal.take_part-requires-clause-own
take_part-requires-clause-own t c =
    let d = c.args.station.now in
    let view = c.args.view in
    let here : BayId = record { 0 = c.args.part } in
    let grew = grew_on _ _ _ c.in_ok-so_far.ensures.grew c.in_ok-after.ensures.grew in
    subst (λ es. StandsForItems view d c.walk.new.terms (InParts d (Only here)) es) (sym c.deref-3.ensures.value)
    (stands_grew view d c.own_edges.new.terms c.walk.new.terms (InParts d (Only here)) c.in_ok-own.own.items grew
    c.in_ok-own.ensures.stands)

pub take_part-requires-clause-after : goal.take_part-requires-clause-after
take_part-requires-clause-after t c =
    let d = c.args.station.now in
    subst (λ es. StandsForItems c.args.view d c.walk.new.terms (InParts d (From (c.args.part + 1))) es)
    (sym c.deref-4.ensures.value) c.in_ok-after.ensures.stands

pub returns-clause-grew : goal.returns-clause-grew
returns-clause-grew t c =
    let grew = grew_on _ _ _ c.in_ok-own.ensures.grew
    (grew_on _ _ _ c.in_ok-so_far.ensures.grew c.in_ok-after.ensures.grew) in
    on_ok_weaker c.take_part.result (grew_on _ _ _ grew) c.take_part.ensures.grew

pub returns-clause-edges : goal.returns-clause-edges
returns-clause-edges t c = c.take_part.ensures.edges

pub returns-clause-stands : goal.returns-clause-stands
returns-clause-stands t c = c.take_part.ensures.stands

pub returns-clause-len : goal.returns-clause-len
returns-clause-len t c = c.take_part.ensures.len

pub returns-clause-exact : goal.returns-clause-exact
returns-clause-exact t c = c.take_part.ensures.exact

pub returns-then-part-part_count-clause-stands : goal.returns-then-part-part_count-clause-stands
returns-then-part-part_count-clause-stands t c =
    let d = c.args.station.now in
    let part = c.args.part in
    let last : part ≡ part_count d = c.if-part-part_count.true ∙ c.part_count.ensures.count in
    subst (λ es. StandsForItems c.args.view d c.args.terms.now (InParts d (From part)) es) (sym c.new.ensures.items)
    (stands_nobody c.args.view d c.part_count.ensures.station c.args.terms.now (From part) (none_from d part last))

pub returns-then-part-part_count-clause-exact : goal.returns-then-part-part_count-clause-exact
returns-then-part-part_count-clause-exact t c =
    let d = c.args.station.now in
    let part = c.args.part in
    let last : part ≡ part_count d = c.if-part-part_count.true ∙ c.part_count.ensures.count in
    no_switch_from c.args.view d c.part_count.ensures.station c.args.terms.now part c.args.pairs.now.items last
