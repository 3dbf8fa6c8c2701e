use Rattle.std.proofs.Common.{◌≡◌, ◌+◌, ℕ, List, [], ◌∷◌, ◌++◌, Vec, Global, length, map, sym, ap, ◌∙◌, subst, arith}
use Rattle.std.proofs.lemmas.List.{map-append}
use Rattle.std.proofs.lemmas.Option.{slice_get-get_or}
use Rattle.judge_pool.proofs.LayeringLemmas.{grew_same, grew_more, grows}
use Rattle.step_graphs.specs.Letters.{AreStepRows}
use Rattle.step_graphs.proofs.StepLemmas.{step_rows_none, step_rows_more}
use Rattle.step_graphs.proofs.letters.step_rows.Goals as goal

pub loop-k-init : goal.loop-k-init
loop-k-init c = record {
  grew = grew_same c.args.pool.now c.requires.pool;
  rows =
      subst (λ (rs : List (Vec ℕ Global)). AreStepRows c.args.pool.now c.args.station.now c.args.steps.now
      (map (λ (v : Vec ℕ Global). v.items) rs) 0) (sym c.new-rows.ensures.items)
      (step_rows_none c.args.pool.now c.args.station.now c.args.steps.now);
}

pub loop-k-preserved : goal.loop-k-preserved
loop-k-preserved c =
    let d = c.args.station.now in
    let steps = c.args.steps.now in
    let k = c.loop-k.k in
    let p = c.loop-k.pool in
    let q = c.step_row.new.pool in
    let g = c.in_ok-ids.ensures.grew in
    let (xs, row) = c.in_ok-ids.ensures.row in
    let ids : List ℕ = c.in_ok-ids.ids.items in
    let rows : List (List ℕ) = map (λ (v : Vec ℕ Global). v.items) c.loop-k.rows.items in
    let items : map (λ (v : Vec ℕ Global). v.items) c.push.new.self.items ≡ rows ++ ids ∷ [] =
    ap (map (λ (v : Vec ℕ Global). v.items)) c.in_ok-push.ensures.items
    ∙ map-append (λ (v : Vec ℕ Global). v.items) c.loop-k.rows.items _ in
    record {
      grew = grew_more c.args.pool.now p q c.loop-k.invariant.grew g;
      rows =
          subst (λ (rs : List (List ℕ)). AreStepRows q d steps rs (k + 1)) (sym items)
          (step_rows_more p q (grows p q g) d steps rows k _ xs ids c.loop-k.invariant.rows
          (slice_get-get_or steps k _ c.loop-k-test.true) row);
    }

pub returns-clause-rows : goal.returns-clause-rows
returns-clause-rows c =
    let done : c.loop-k.k ≡ length c.args.steps.now =
    omega (arith, c.loop-k.auto.k-end, c.loop-k-test.false) in
    subst (λ n. AreStepRows c.loop-k.pool c.args.station.now c.args.steps.now
    (map (λ (v : Vec ℕ Global). v.items) c.loop-k.rows.items) n) done c.loop-k.invariant.rows
