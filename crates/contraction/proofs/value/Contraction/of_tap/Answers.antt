use Rattle.std.proofs.Common.{true, false, [], ◌∷◌, refl, inl, inr}
use Rattle.std.proofs.lemmas.Result.{IfOk-weaker}
use Rattle.station_graph.specs.Connection.{a_tap}
use Rattle.contraction.specs.Stands.{Among}
use Rattle.contraction.specs.Single.{Only}
use Rattle.contraction.proofs.ItemSets.{stands_over, among_one}
use Rattle.contraction.proofs.ItemLemmas.{single_stands}
use Rattle.contraction.proofs.value.Contraction.of_tap.Goals as goal

pub returns-clause-stands : goal.returns-clause-stands
returns-clause-stands c =
    let d = c.args.station.now in
    let i = c.args.i in
    let n = c.tap.result.node.0 in
    IfOk-weaker c.single.result _ _
    (λ z is v. stands_over (Only (a_tap i)) (Among (a_tap i ∷ [])) d v z (λ item has. among_one (a_tap i) item)
    (single_stands d (a_tap i) v n false false false true z is
    (λ m at. absurd (cc (at.among)))
    (λ e. absurd (elim e [ inl on ↦ cc | inr on ↦ cc ]))
    (λ m at. absurd (cc (at.among)))
    (λ e. absurd (cc))
    (λ m at. refl)
    (λ e. inr (record { number = i; tap = c.tap.result; listed = c.tap.ensures.value; stands = refl; among = refl }))))
    c.single.ensures.single
