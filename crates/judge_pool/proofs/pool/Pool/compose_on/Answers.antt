use Rattle.std.proofs.Common.{[], ◌∷◌, ◌++◌, take, get_or, sym, subst, arith}
use Rattle.std.proofs.lemmas.List.{take_more, take_all}
use Rattle.std.proofs.lemmas.Option.{slice_get-get_or}
use Rattle.judge_pool.specs.Pooling.{MakesEach, composition}
use Rattle.judge_pool.proofs.LayeringLemmas.{grows, grew_same, grew_more}
use Rattle.judge_pool.proofs.AlikeLemmas.{selects_more}
use Rattle.judge_pool.proofs.BatchLemmas.{can_more, are_made_more, made_none, made_one}
use Rattle.judge_pool.proofs.pool.Pool.compose_on.Goals as goal

pub letters-init : goal.letters-init
letters-init c = record {
  grew = grew_same c.args.self.now c.requires.pool;
  made = made_none c.args.self.now c.args.batch c.clear.new.self.items c.clear.ensures.items;
}

pub find_or_make-requires-clause-pool : goal.find_or_make-requires-clause-pool
find_or_make-requires-clause-pool c = c.letters.invariant.grew.is_pool

pub find_or_make-requires-clause-fits : goal.find_or_make-requires-clause-fits
find_or_make-requires-clause-fits c =
    let letters = c.args.letters.now in
    let k = c.letters.c in
    let j = get_or letters k 0 in
    can_more c.args.self.now c.letters.self (composition c.args.batch j) c.letters.invariant.grew
    (c.requires.fit k j (slice_get-get_or letters k 0 c.letters-test.true))

pub find_or_make-requires-clause-selection : goal.find_or_make-requires-clause-selection
find_or_make-requires-clause-selection c =
    let letters = c.args.letters.now in
    let k = c.letters.c in
    let j = get_or letters k 0 in
    let at = slice_get-get_or letters k 0 c.letters-test.true in
    let g = c.letters.invariant.grew in
    selects_more c.args.self.now c.letters.self (composition c.args.batch j) c.args.selection.now g.values g.keeps
    (c.requires.fit k j at) (c.requires.selects k j at)

pub letters-preserved : goal.letters-preserved
letters-preserved c =
    let k = c.letters.c in
    let letters = c.args.letters.now in
    let b = c.args.batch in
    let letter = get_or letters k 0 in
    let id = c.in_ok-id.id in
    let q = c.find_or_make.new.self in
    let g = c.in_ok-id.ensures.grew in
    let old = are_made_more c.letters.self q (grows c.letters.self q g) b (take k letters) c.letters.ids.items
    c.letters.invariant.made in
    record {
      grew = grew_more c.args.self.now c.letters.self q c.letters.invariant.grew g;
      made =
          subst (λ l. MakesEach q b l c.push.new.self.items) (sym (take_more letters k 0 c.letters-test.true))
          (subst (λ l. MakesEach q b (take k letters ++ letter ∷ []) l) (sym c.in_ok-push.ensures.items)
          (made_one q b (take k letters) c.letters.ids.items letter id old c.in_ok-id.ensures.made));
    }

pub returns-clause-made : goal.returns-clause-made
returns-clause-made c =
    subst (λ l. MakesEach c.letters.self c.args.batch l c.letters.ids.items)
    (take_all c.letters.c c.args.letters.now (omega (arith, c.letters-test.false))) c.letters.invariant.made
