use Rattle.std.proofs.Common.{◌≡◌, ◌+◌, ℕ, List, slice_get, Some, length, refl, sym, subst, arith}
use Rattle.std.proofs.lemmas.Option.{slice_get_read}
use Rattle.contraction.specs.Answers.{Answers}
use Rattle.judge_pool.proofs.LayeringLemmas.{grew_same, grew_more, grows}
use Rattle.judge_intake.proofs.InputsLemmas.{CopiesBelow, copies_none, copies_more, copies_all}
use Rattle.judge_intake.proofs.inputs.copies.Goals as goal

pub loop-place-init : goal.loop-place-init
loop-place-init c = record {
  grew = grew_same c.args.pool.now c.requires.pool;
  copies =
      subst (λ (ids : List ℕ). CopiesBelow c.args.pool.now c.args.values.now ids 0) (sym c.new-ids.ensures.items)
      (copies_none c.args.pool.now c.args.values.now);
}

pub copy-requires-clause-nodes : goal.copy-requires-clause-nodes
copy-requires-clause-nodes c n =
    let y : Answers = c.index-values-place.result in
    c.requires.nodes c.loop-place.place y
    (slice_get_read c.args.values.now _ c.loop-place.place y refl c.loop-place-test.true c.index-values-place.is) n

pub loop-place-preserved : goal.loop-place-preserved
loop-place-preserved c =
    let p = c.loop-place.pool in
    let q = c.copy.new.self in
    let g = c.in_ok-id.ensures.grew in
    let y : Answers = c.index-values-place.result in
    let at : slice_get c.args.values.now c.loop-place.place ≡ Some y =
    slice_get_read c.args.values.now _ c.loop-place.place y refl c.loop-place-test.true c.index-values-place.is in
    record {
      grew = grew_more c.args.pool.now p q c.loop-place.invariant.grew g;
      copies =
          subst (λ (ids : List ℕ). CopiesBelow q c.args.values.now ids (c.loop-place.place + 1))
          (sym c.in_ok-push.ensures.items)
          (copies_more p q c.args.values.now c.loop-place.ids.items c.loop-place.place c.in_ok-id.id y (grows p q g)
          c.loop-place.invariant.copies at c.in_ok-id.ensures.copy);
    }

pub returns-clause-copies : goal.returns-clause-copies
returns-clause-copies c =
    let done : length c.args.values.now ≡ c.loop-place.place =
    omega (arith, c.loop-place.auto.place-end, c.loop-place-test.false) in
    copies_all c.loop-place.pool c.args.values.now c.loop-place.ids.items c.loop-place.place
    c.loop-place.invariant.copies done
