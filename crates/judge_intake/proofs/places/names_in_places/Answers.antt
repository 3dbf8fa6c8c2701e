use Rattle.std.proofs.Common.{◌≡◌, ◌+◌, ℕ, List, get_or, slice_get, Some, length, sym, subst, arith}
use Rattle.std.proofs.lemmas.List.{length-map}
use Rattle.std.proofs.lemmas.Option.{slice_get-get_or}
use Rattle.contraction.specs.Answers.{Answers}
use Rattle.judge_pool.specs.Places.{node_listed, pool_on}
use Rattle.judge_pool.specs.Layering.{values_at, no_answers}
use Rattle.judge_pool.proofs.BridgeLemmas.{number_at}
use Rattle.judge_pool.proofs.LayeringLemmas.{grew_same, grew_more, grew_in, grows, value_was}
use Rattle.judge_pool.proofs.MappedPools.{grows_on}
use Rattle.judge_intake.proofs.InputsLemmas.{CopiesBelow, copies_none, copies_more, copies_all}
use Rattle.judge_intake.proofs.places.names_in_places.Goals as goal

pub loop-t-init : goal.loop-t-init
loop-t-init c = record {
  grew = grew_same c.args.pool.now c.requires.pool;
  copies =
      subst (λ (ids : List ℕ). CopiesBelow (pool_on (node_listed c.args.list.now) c.args.pool.now)
      (values_at c.args.pool.now.values.items c.args.names.now) ids 0) (sym c.new-ids.ensures.items) (copies_none
      (pool_on (node_listed c.args.list.now) c.args.pool.now)
      (values_at c.args.pool.now.values.items c.args.names.now));
}

pub copy_in_places-requires-clause-within : goal.copy_in_places-requires-clause-within
copy_in_places-requires-clause-within c =
    let t = c.loop-t.t in
    let i : ℕ = get_or c.args.names.now t 0 in
    grew_in c.args.pool.now c.loop-t.pool i no_answers c.loop-t.invariant.grew
    (c.requires.within t i (slice_get-get_or c.args.names.now t 0 c.loop-t-test.true))

pub copy_in_places-requires-clause-has : goal.copy_in_places-requires-clause-has
copy_in_places-requires-clause-has c x at n kept =
    let p = c.args.pool.now in
    let t = c.loop-t.t in
    let i : ℕ = get_or c.args.names.now t 0 in
    let at_i : slice_get c.args.names.now t ≡ Some i = slice_get-get_or c.args.names.now t 0 c.loop-t-test.true in
    let was = value_was p c.loop-t.pool i x (grows p c.loop-t.pool c.loop-t.invariant.grew)
    (c.requires.within t i at_i) at in
    c.requires.has t x (number_at p.values.items c.args.names.now t i x at_i was) n kept

pub loop-t-preserved : goal.loop-t-preserved
loop-t-preserved c =
    let f : ℕ → ℕ = node_listed c.args.list.now in
    let p = c.args.pool.now in
    let q = c.loop-t.pool in
    let r = c.copy_in_places.new.pool in
    let g = c.in_ok-id.ensures.grew in
    let t = c.loop-t.t in
    let i : ℕ = get_or c.args.names.now t 0 in
    let at_i : slice_get c.args.names.now t ≡ Some i = slice_get-get_or c.args.names.now t 0 c.loop-t-test.true in
    let x : Answers = get_or p.values.items i no_answers in
    let at_x : slice_get p.values.items i ≡ Some x =
    slice_get-get_or p.values.items i no_answers (c.requires.within t i at_i) in
    record {
      grew = grew_more p q r c.loop-t.invariant.grew g;
      copies =
          subst (λ (ids : List ℕ). CopiesBelow (pool_on f r) (values_at p.values.items c.args.names.now) ids (t + 1))
          (sym c.in_ok-push.ensures.items)
          (copies_more (pool_on f q) (pool_on f r) (values_at p.values.items c.args.names.now) c.loop-t.ids.items t
          c.in_ok-id.id x (grows_on f q r (grows q r g)) c.loop-t.invariant.copies
          (number_at p.values.items c.args.names.now t i x at_i at_x)
          (c.in_ok-id.ensures.copy x (c.loop-t.invariant.grew.values i x at_x)));
    }

pub returns-clause-copies : goal.returns-clause-copies
returns-clause-copies c =
    let p = c.args.pool.now in
    let done : length (values_at p.values.items c.args.names.now) ≡ c.loop-t.t = omega (
      arith,
      length-map c.args.names.now (λ i. get_or p.values.items i no_answers),
      c.loop-t.auto.t-end,
      c.loop-t-test.false,
    ) in
    copies_all (pool_on (node_listed c.args.list.now) c.loop-t.pool) (values_at p.values.items c.args.names.now)
    c.loop-t.ids.items c.loop-t.t c.loop-t.invariant.copies done
