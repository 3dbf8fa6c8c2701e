use Rattle.std.proofs.Common.{true, [], ◌∷◌}
use Rattle.std.proofs.lemmas.Result.{IfOk-weaker}
use Rattle.station_graph.specs.Connection.{a_link, with_breakers_closed}
use Rattle.contraction.specs.Stands.{Among}
use Rattle.contraction.specs.Single.{Only}
use Rattle.contraction.proofs.ItemSets.{stands_over, among_one}
use Rattle.contraction.proofs.ItemLemmas.{pair_stands}
use Rattle.contraction.proofs.LinkLemmas.{joins_always, joins_bond, link_nodes}
use Rattle.contraction.proofs.value.Contraction.of_link.Goals as goal

pub returns-clause-kept : goal.returns-clause-kept
returns-clause-kept c =
    IfOk-weaker c.pair.result _ _
    (λ z is n. link_nodes c.args.station.now c.args.i c.link-link.result z.kept c.link-link.ensures.value is.kept n)
    c.pair.ensures.pair

pub returns-clause-stands : goal.returns-clause-stands
returns-clause-stands c =
    let d = c.args.station.now in
    let i = c.args.i in
    let x = c.link-link.result in
    let listed = c.link-link.ensures.value in
    IfOk-weaker c.pair.result _ _
    (λ z is v. stands_over (Only (a_link i)) (Among (a_link i ∷ [])) d v z (λ item has. among_one (a_link i) item)
    (pair_stands d (a_link i) v x.first.0 x.second.0 true true x.bond z is
    (joins_always d i x listed (with_breakers_closed d v)) (joins_always d i x listed v) (joins_bond d i x listed v)
    (λ kind n k at. cc (at.among)) (λ n tap. cc (tap.among))))
    c.pair.ensures.pair
