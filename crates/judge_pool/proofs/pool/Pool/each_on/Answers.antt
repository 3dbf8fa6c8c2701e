use Rattle.std.proofs.Common.{[], ◌∷◌, ◌++◌, take, get_or, sym, subst, arith}
use Rattle.std.proofs.lemmas.List.{take_more, take_all}
use Rattle.std.proofs.lemmas.Option.{slice_get-get_or}
use Rattle.judge_pool.specs.Standing.{AreOn}
use Rattle.judge_pool.proofs.LayeringLemmas.{grows, grew_same, grew_more}
use Rattle.judge_pool.proofs.StandLemmas.{all_on_stay, can_stay, on_none, on_one}
use Rattle.judge_pool.proofs.pool.Pool.each_on.Goals as goal

pub values-init : goal.values-init
values-init c = record {
  grew = grew_same c.args.self.now c.requires.pool;
  on = on_none c.args.self.now c.args.keep c.in_ok-placed.placed.items c.in_ok-placed.ensures.items;
}

pub stand-requires-clause-pool : goal.stand-requires-clause-pool
stand-requires-clause-pool c = c.values.invariant.grew.is_pool

pub stand-requires-clause-can : goal.stand-requires-clause-can
stand-requires-clause-can c =
    let ids = c.args.ids.now in
    let k = c.values.c in
    can_stay c.args.self.now c.values.self (grows c.args.self.now c.values.self c.values.invariant.grew) c.args.keep
    (get_or ids k 0) (c.requires.can k (get_or ids k 0) (slice_get-get_or ids k 0 c.values-test.true))

pub values-preserved : goal.values-preserved
values-preserved c =
    let k = c.values.c in
    let ids = c.args.ids.now in
    let i = get_or ids k 0 in
    let id = c.in_ok-id.id in
    let q = c.stand.new.self in
    let g = c.in_ok-id.ensures.grew in
    let old = all_on_stay c.values.self q (grows c.values.self q g) c.args.keep (take k ids) c.values.placed.items
    c.values.invariant.on in
    record {
      grew = grew_more c.args.self.now c.values.self q c.values.invariant.grew g;
      on =
          subst (λ l. AreOn q c.args.keep l c.push.new.self.items) (sym (take_more ids k 0 c.values-test.true))
          (subst (λ l. AreOn q c.args.keep (take k ids ++ i ∷ []) l) (sym c.in_ok-push.ensures.items)
          (on_one q c.args.keep (take k ids) c.values.placed.items i id old c.in_ok-id.ensures.on));
    }

pub returns-clause-on : goal.returns-clause-on
returns-clause-on c =
    subst (λ l. AreOn c.values.self c.args.keep l c.values.placed.items)
    (take_all c.values.c c.args.ids.now (omega (arith, c.values-test.false))) c.values.invariant.on
