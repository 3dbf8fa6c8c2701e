use Rattle.std.proofs.Common.{◌≡◌, ◌<◌, slice_get, Some, length, refl, sym, ap, ◌∙◌, inl, inr, arith}
use Rattle.std.proofs.lemmas.Option.{slice_get_read, slice_get_within, same_Some}
use Rattle.std.proofs.lemmas.Bool.{cases_lt}
use Rattle.decision_graphs.specs.Label.{Layered}
use Rattle.judge_graphs.proofs.TellingLemmas.{same_lists}
use Rattle.judge_graphs.proofs.partners.same_inners.Goals as goal

pub loop-place-preserved : goal.loop-place-preserved
loop-place-preserved c k v w lt at_v at_w = elim (cases_lt k c.loop-place.place) [
  | inl less ↦ c.loop-place.invariant k v w less at_v at_w
  | inr more ↦
      let place = c.loop-place.place in
      let e : place ≡ k = omega (arith, lt, more) in
      let x : Layered = c.index-one-place.result in
      let y : Layered = c.index-other-place.result in
      let there : place < length c.args.other.now = omega (arith, c.loop-place-test.true, c.if-one-other.false) in
      let at_x : slice_get c.args.one.now place ≡ Some x =
      slice_get_read c.args.one.now _ place x refl c.loop-place-test.true c.index-one-place.is in
      let at_y : slice_get c.args.other.now place ≡ Some y =
      slice_get_read c.args.other.now _ place y refl there c.index-other-place.is in
      let x_is : x ≡ v = same_Some x v (sym at_x ∙ (ap (slice_get c.args.one.now) e ∙ at_v)) in
      let y_is : y ≡ w = same_Some y w (sym at_y ∙ (ap (slice_get c.args.other.now) e ∙ at_w)) in
      sym x_is ∙ (c.same.ensures c.if-not-same.false ∙ y_is)
]

pub returns : goal.returns
returns c done =
    same_lists c.args.one.now c.args.other.now c.if-one-other.false
    (λ k v w at_v at_w. c.loop-place.invariant k v w
    (omega (arith, slice_get_within c.args.one.now k v at_v, c.loop-place-test.false)) at_v at_w)
