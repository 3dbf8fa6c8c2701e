use Rattle.std.proofs.Common.{◌≡◌, ◌+◌, ℕ, List, [], ◌∷◌, ◌++◌, Vec, Global, map, sym, ap, ◌∙◌, subst, arith}
use Rattle.std.proofs.lemmas.List.{map-append}
use Rattle.judge_pool.specs.Places.{node_listed, pool_on}
use Rattle.judge_intake.specs.Inputs.{ArePairs}
use Rattle.judge_pool.proofs.LayeringLemmas.{grew_same, grew_more, grows}
use Rattle.judge_pool.proofs.MappedPools.{grows_on}
use Rattle.judge_intake.proofs.InputsLemmas.{pairs_none, pairs_more}
use Rattle.judge_intake.proofs.own.switch_pairs.Goals as goal

pub loop-i-init : goal.loop-i-init
loop-i-init c =
    let p = pool_on (node_listed c.args.list.now) c.args.pool.now in
    record {
      grew = grew_same c.args.pool.now c.requires.pool;
      pairs =
          subst (λ (rs : List (Vec ℕ Global)). ArePairs p c.args.station.now c.args.first (map (λ r. r.items) rs) 0)
          (sym c.new-pairs.ensures.items) (pairs_none p c.args.station.now c.args.first);
    }

pub switch_pair-requires-clause-has : goal.switch_pair-requires-clause-has
switch_pair-requires-clause-has c n t = c.requires.has n (c.loop-i.i, c.loop-i-test.true, t)

pub loop-i-preserved : goal.loop-i-preserved
loop-i-preserved c =
    let d = c.args.station.now in
    let f : ℕ → ℕ = node_listed c.args.list.now in
    let i = c.loop-i.i in
    let p = c.loop-i.pool in
    let q = c.switch_pair.new.pool in
    let g = c.in_ok-pair.ensures.grew in
    let row : List ℕ = c.in_ok-pair.pair.items in
    let rows : List (List ℕ) = map (λ (v : Vec ℕ Global). v.items) c.loop-i.pairs.items in
    let items : map (λ (v : Vec ℕ Global). v.items) c.push.new.self.items ≡ rows ++ row ∷ [] =
    ap (map (λ (v : Vec ℕ Global). v.items)) c.in_ok-push.ensures.items
    ∙ map-append (λ (v : Vec ℕ Global). v.items) c.loop-i.pairs.items _ in
    record {
      grew = grew_more c.args.pool.now p q c.loop-i.invariant.grew g;
      pairs =
          subst (λ (rs : List (List ℕ)). ArePairs (pool_on f q) d c.args.first rs (i + 1)) (sym items)
          (pairs_more (pool_on f p) (pool_on f q) d c.args.first rows i row (grows_on f p q (grows p q g))
          c.loop-i.invariant.pairs c.in_ok-pair.ensures.pair);
    }

pub returns-clause-pairs : goal.returns-clause-pairs
returns-clause-pairs c =
    let done : c.loop-i.i ≡ c.args.count = omega (arith, c.loop-i.auto.i-end, c.loop-i-test.false) in
    subst (λ n. ArePairs (pool_on (node_listed c.args.list.now) c.loop-i.pool) c.args.station.now c.args.first
    (map (λ (v : Vec ℕ Global). v.items) c.loop-i.pairs.items) n) done c.loop-i.invariant.pairs
