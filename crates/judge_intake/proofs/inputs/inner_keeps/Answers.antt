use Rattle.std.proofs.Common.{◌≡◌, ◌+◌, ◌++◌, ◌∷◌, [], ℕ, List, map, suc, sym, ap, ◌∙◌, subst, inr, add-one, arith}
use Rattle.std.specs.Prelude.{Contains, ◌↔◌}
use Rattle.judge_pool.specs.Needing.{InnerNeeds, BayNeeds}
use Rattle.judge_pool.specs.Places.{node_listed, pool_on}
use Rattle.judge_intake.specs.Inputs.{AreKeeps, HasNodes}
use Rattle.judge_pool.proofs.LayeringLemmas.{grew_same, grew_more, grows}
use Rattle.judge_pool.proofs.MappedPools.{at_mapped, grows_on}
use Rattle.judge_intake.proofs.NodesLemmas.{bay_inner}
use Rattle.judge_intake.proofs.PlacesLemmas.{needed_later}
use Rattle.judge_intake.proofs.OwnBayLemmas.{is_own, needs_so}
use Rattle.judge_intake.proofs.InputsLemmas.{keeps_none, keeps_more}
use Rattle.judge_intake.proofs.inputs.inner_keeps.Goals as goal

pub inner_places-requires-clause-has : goal.inner_places-requires-clause-has
inner_places-requires-clause-has c n need =
    let d = c.args.station.now in
    let m = c.args.moved in
    let first = c.args.own.now.first in
    let others = c.args.others in
    (needs_so d c.args.own.now c.requires.own m others c.requires.moved n).1
    ((bay_inner d c.args.own.now.bay.0 m first others (is_own d c.args.own.now c.requires.own m others c.requires.moved) n).1
    (inr (needed_later d m first others c.loop-from.from n need)))

pub loop-from-init : goal.loop-from-init
loop-from-init c =
    let d = c.args.station.now in
    let f : ℕ → ℕ = node_listed c.args.own.now.nodes in
    let N : ℕ → ℕ → Type 0 = InnerNeeds d c.args.own.now.bay.0 c.args.moved c.args.own.now.first c.args.others in
    let p = pool_on f c.args.pool.now in
    let needs = bay_inner d c.args.own.now.bay.0 c.args.moved c.args.own.now.first c.args.others (is_own d c.args.own.now c.requires.own c.args.moved c.args.others c.requires.moved) in
    let h = subst (λ k. HasNodes (BayNeeds d c.args.own.now.bay.0 c.args.own.now.first k) p c.args.keep) c.requires.moved.one_more c.requires.keep in
    let start : HasNodes (N 0) p c.args.keep = record {
      nodes = h.nodes;
      listed = h.listed;
      exact = λ n. (λ k. (needs n).0 ((h.exact n).0 k), λ k. (h.exact n).1 ((needs n).1 k));
    } in
    record {
      grew = grew_same c.args.pool.now c.requires.pool;
      keeps =
          subst (λ (ks : List ℕ). AreKeeps N p ks (0 + 1))
          (sym (c.in_ok-push.ensures.items ∙ ap (λ xs. xs ++ c.args.keep ∷ []) c.new-keeps.ensures.items))
          (keeps_more N p p [] 0 c.args.keep
          (grows_on f c.args.pool.now c.args.pool.now
          (grows c.args.pool.now c.args.pool.now (grew_same c.args.pool.now c.requires.pool))) (keeps_none N p) start);
    }

pub loop-from-preserved : goal.loop-from-preserved
loop-from-preserved c =
    let f : ℕ → ℕ = node_listed c.args.own.now.nodes in
    let N : ℕ → ℕ → Type 0 = InnerNeeds c.args.station.now c.args.own.now.bay.0 c.args.moved c.args.own.now.first c.args.others in
    let p = c.loop-from.pool in
    let q = c.keep.new.self in
    let g = c.in_ok-id.ensures.grew in
    let n = c.loop-from.from in
    let nodes : List ℕ = map f c.in_ok-places.places in
    let new : HasNodes (N (n + 1)) (pool_on f q) c.in_ok-id.id = record {
      nodes = nodes;
      listed = at_mapped (map f) q.keeps.items c.in_ok-id.id c.in_ok-places.places c.in_ok-id.ensures.kept;
      exact = λ m. subst (λ k. Contains nodes m ↔ N k m) (sym (add-one n)) (c.in_ok-places.ensures m);
    } in
    record {
      grew = grew_more c.args.pool.now p q c.loop-from.invariant.grew g;
      keeps = subst (λ (ks : List ℕ). AreKeeps N (pool_on f q) ks (n + 1 + 1)) (sym c.in_ok-push-2.ensures.items)
          (keeps_more N (pool_on f p) (pool_on f q) c.loop-from.keeps.items (n + 1) c.in_ok-id.id
          (grows_on f p q (grows p q g)) c.loop-from.invariant.keeps new);
    }

pub returns-clause-keeps : goal.returns-clause-keeps
returns-clause-keeps c =
    let N : ℕ → ℕ → Type 0 = InnerNeeds c.args.station.now c.args.own.now.bay.0 c.args.moved c.args.own.now.first c.args.others in
    let done : c.loop-from.from + 1 ≡ suc (suc c.args.others) =
    omega (arith, c.loop-from.auto.from-end, c.loop-from-test.false, c.requires.moved.one_more) in
    subst (λ n. AreKeeps N (pool_on (node_listed c.args.own.now.nodes) c.loop-from.pool) c.loop-from.keeps.items n) done
    c.loop-from.invariant.keeps
