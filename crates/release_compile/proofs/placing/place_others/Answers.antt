use Rattle.std.proofs.Common.{◌≡◌, ℕ, ◌<◌, length, get_or, slice_get, Some, refl, sym, ap, ◌∙◌, subst, arith}
use Rattle.std.proofs.lemmas.Option.{slice_get-get_or, IfSome_then}
use Rattle.station_graph.specs.Diagram.{part_count}
use Rattle.station_graph.specs.Alike.{DifferInPart}
use Rattle.part_alphabets.specs.PartAlphabets.{Alphabets, size_of, StandsAt}
use Rattle.judge_pool.specs.Lettered.{lettered}
use Rattle.judge_pool.specs.Graphs.{other_of, PartChosen}
use Rattle.release_compile.specs.Possible.{SetHolds}
use Rattle.release_compile.specs.Deciding.{IsPlaceFor}
use Rattle.judge_intake.proofs.OtherLemmas.{other_in}
use Rattle.release_compile.proofs.PlacingLemmas.{below_none, below_all, parts_more, none_agree, all_agree_more}
use Rattle.release_compile.proofs.placing.place_others.Goals as goal

pub loop-j-init : goal.loop-j-init
loop-j-init c = record {
  count = refl;
  chosen =
      below_none (PartChosen (lettered c.args.station.now c.args.parts.now) c.args.bay.0) c.args.vector.now
      c.args.choices.now;
  agree = none_agree c.args.station.now c.args.bay.0 c.args.vector.now c.args.known;
}

pub place_for-position-requires-clause-part : goal.place_for-position-requires-clause-part
place_for-position-requires-clause-part c =
    let j = c.loop-j.j in
    let e : c.other_number.result ≡ other_of 0 c.args.bay.0 j =
    c.other_number.ensures ∙ ap (λ b. other_of 0 b j) c.from.ensures in
    omega (
      arith,
      e,
      (other_in 0 c.args.bay.0 c.args.others j c.loop-j-test.true).1,
      c.requires.lettered.parts,
      c.requires.count,
    )

pub place_for-position-requires-clause-index : goal.place_for-position-requires-clause-index
place_for-position-requires-clause-index c =
    let a : Alphabets = c.args.parts.now in
    let j = c.loop-j.j in
    let e : c.other_number.result ≡ other_of 0 c.args.bay.0 j =
    c.other_number.ensures ∙ ap (λ b. other_of 0 b j) c.from.ensures in
    let at : slice_get c.args.choices.now j ≡ Some (get_or c.args.choices.now j 0) =
    slice_get-get_or c.args.choices.now j 0 (omega (arith, c.requires.len, c.loop-j-test.true)) in
    let below = c.requires.indices j (get_or c.args.choices.now j 0) at in
    omega (arith, below, c.choice-index.ensures, ap (λ p. size_of a p) e)

pub place_for-position-requires-clause-held : goal.place_for-position-requires-clause-held
place_for-position-requires-clause-held c =
    let j = c.loop-j.j in
    let e : c.other_number.result ≡ other_of 0 c.args.bay.0 j =
    c.other_number.ensures ∙ ap (λ b. other_of 0 b j) c.from.ensures in
    let at : slice_get c.args.choices.now j ≡ Some c.choice-index.result =
    slice_get-get_or c.args.choices.now j 0 (omega (arith, c.requires.len, c.loop-j-test.true))
    ∙ ap Some (sym c.choice-index.ensures) in
    IfSome_then c.args.known c.requires.held
    (λ w held. subst (λ p. SetHolds w.now.possible.items p c.choice-index.result)
    (sym e) (held j c.choice-index.result at))

pub overflow_cast-index : goal.overflow_cast-index
overflow_cast-index c =
    let a : Alphabets = c.args.parts.now in
    let j = c.loop-j.j in
    let at : slice_get c.args.choices.now j ≡ Some (get_or c.args.choices.now j 0) =
    slice_get-get_or c.args.choices.now j 0 (omega (arith, c.requires.len, c.loop-j-test.true)) in
    let below = c.requires.indices j (get_or c.args.choices.now j 0) at in
    let in_d : other_of 0 c.args.bay.0 j < part_count c.args.station.now =
    omega (arith, (other_in 0 c.args.bay.0 c.args.others j c.loop-j-test.true).1, c.requires.count) in
    let few = (c.requires.lettered.each (other_of 0 c.args.bay.0 j) in_d).few in
    omega (arith, below, few, c.choice-index.ensures)

pub put-requires-clause-part : goal.put-requires-clause-part
put-requires-clause-part c =
    let j = c.loop-j.j in
    let e : c.other_number.result ≡ other_of 0 c.args.bay.0 j =
    c.other_number.ensures ∙ ap (λ b. other_of 0 b j) c.from.ensures in
    omega (
      arith,
      e,
      (other_in 0 c.args.bay.0 c.args.others j c.loop-j-test.true).1,
      c.requires.lettered.parts,
      c.requires.count,
    )

pub put-requires-clause-position : goal.put-requires-clause-position
put-requires-clause-position c =
    (c.place_for-position.ensures c.args.station.now c.requires.lettered c.requires.known).position

pub put-requires-clause-vector : goal.put-requires-clause-vector
put-requires-clause-vector c = c.loop-j.invariant.count ∙ (c.requires.whole ∙ sym c.requires.lettered.switches)

pub loop-j-preserved : goal.loop-j-preserved
loop-j-preserved c =
    let d = c.args.station.now in
    let a : Alphabets = c.args.parts.now in
    let j = c.loop-j.j in
    let w = c.put.new.vector in
    let part = other_of 0 c.args.bay.0 j in
    let index : ℕ = c.choice-index.result in
    let n : ℕ = c.place_for-position.result in
    let e : c.other_number.result ≡ part = c.other_number.ensures ∙ ap (λ b. other_of 0 b j) c.from.ensures in
    let len : length w ≡ length c.args.vector.now = c.put.ensures.count ∙ c.loop-j.invariant.count in
    let here : IsPlaceFor c.args.known d a part index n =
    subst (λ p. IsPlaceFor c.args.known d a p index n) e
    (c.place_for-position.ensures d c.requires.lettered c.requires.known) in
    let stands : StandsAt a part n w = subst (λ p. StandsAt a p n w) e c.put.ensures.stands in
    let stay : DifferInPart d part c.loop-j.vector w =
    subst (λ p. DifferInPart d p c.loop-j.vector w) e (c.put.ensures.others d c.requires.lettered) in
    record {
      count = len;
      chosen =
          parts_more (lettered d a) c.args.bay.0 j index n c.loop-j.vector w c.args.choices.now
          c.loop-j.invariant.chosen (sym c.choice-index.ensures) here.has (len ∙ c.requires.whole) stands stay;
      agree =
          all_agree_more d a c.args.bay.0 j index n c.loop-j.vector w c.args.known c.loop-j.invariant.agree here
          (len ∙ c.requires.whole) stands stay;
    }

pub returns-clause-chosen : goal.returns-clause-chosen
returns-clause-chosen c =
    let done : c.args.others ≡ c.loop-j.j = omega (arith, c.loop-j.auto.j-end, c.loop-j-test.false) in
    below_all (PartChosen (lettered c.args.station.now c.args.parts.now) c.args.bay.0) c.loop-j.j c.loop-j.vector
    c.args.choices.now (c.requires.len ∙ done) c.loop-j.invariant.chosen

pub returns-clause-agree : goal.returns-clause-agree
returns-clause-agree c =
    let done : c.args.others ≡ c.loop-j.j = omega (arith, c.loop-j.auto.j-end, c.loop-j-test.false) in
    IfSome_then c.args.known c.loop-j.invariant.agree (λ w agree j lt. agree j (omega (arith, lt, done)))
