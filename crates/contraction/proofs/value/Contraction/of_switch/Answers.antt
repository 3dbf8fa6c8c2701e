use Rattle.std.proofs.Common.{[], ◌∷◌, subst}
use Rattle.std.proofs.lemmas.Result.{IfOk-weaker}
use Rattle.station_graph.specs.Connection.{a_switch}
use Rattle.station_graph.proofs.PartialEdges.{second_fits}
use Rattle.contraction.specs.Stands.{Among}
use Rattle.contraction.specs.Single.{Only, IsPair}
use Rattle.contraction.proofs.ItemSets.{stands_over, among_one}
use Rattle.contraction.proofs.SwitchLemmas.{switch_pair_stands, switch_single_stands, switch_nodes}
use Rattle.contraction.proofs.value.Contraction.of_switch.Goals as goal

pub returns-in-Some-clause-kept : goal.returns-in-Some-clause-kept
returns-in-Some-clause-kept c =
    IfOk-weaker c.pair.result _ _
    (λ z is n. switch_nodes c.args.station.now c.args.id.0 c.switch-switch.result c.in-Some.second z.kept
    c.switch-switch.ensures.value c.in-Some.is is.kept n)
    c.pair.ensures.pair

pub returns-in-Some-clause-stands : goal.returns-in-Some-clause-stands
returns-in-Some-clause-stands c =
    let d = c.args.station.now in
    let i = c.args.id.0 in
    let x = c.switch-switch.result in
    let n = c.in-Some.second in
    IfOk-weaker c.pair.result _ _
    (λ z is v at. stands_over (Only (a_switch i)) (Among (a_switch i ∷ [])) d v z
    (λ item has. among_one (a_switch i) item)
    (switch_pair_stands d v i x c.args.closed c.switch-switch.ensures.value at n z c.in-Some.is
    (second_fits d x n c.switch-switch.ensures.fits c.in-Some.is).0
    (subst (λ b. IsPair x.first.0 n.0 b c.args.closed c.args.closed z) c.couples-coupled.ensures is)))
    c.pair.ensures.pair

pub returns-in-None-clause-stands : goal.returns-in-None-clause-stands
returns-in-None-clause-stands c =
    let d = c.args.station.now in
    let i = c.args.id.0 in
    let x = c.switch-switch.result in
    IfOk-weaker c.single.result _ _
    (λ z is v at. stands_over (Only (a_switch i)) (Among (a_switch i ∷ [])) d v z
    (λ item has. among_one (a_switch i) item)
    (switch_single_stands d v i x c.args.closed c.switch-switch.ensures.value at c.acts_as-feeds.result
    c.acts_as-earths.result z c.acts_as-feeds.ensures c.acts_as-earths.ensures is))
    c.single.ensures.single
