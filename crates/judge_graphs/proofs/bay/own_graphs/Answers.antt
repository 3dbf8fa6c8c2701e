use Rattle.std.proofs.Common.{◌≡◌, ◌+◌, ◌-◌, ◌∙◌, ℕ, List, map, sym, ap, subst, arith}
use Rattle.contraction.specs.Answers.{Answers}
use Rattle.contraction.specs.Renaming.{mapped}
use Rattle.decision_graphs.specs.Label.{Layered}
use Rattle.judge_pool.specs.Lettered.{lettered}
use Rattle.judge_pool.specs.Layering.{values_at}
use Rattle.judge_pool.specs.Places.{node_listed, pool_on}
use Rattle.judge_pool.specs.Graphs.{IsInner}
use Rattle.judge_intake.specs.Coding.{labels_of}
use Rattle.judge_graphs.specs.Built.{IsInnerAt, AreInner}
use Rattle.part_alphabets.specs.Counting.{AreSoMany}
use Rattle.judge_pool.specs.Counted.{InnerHas, SwitchesHave, Spends, Passes, InnerIsSmall}
use Rattle.judge_graphs.proofs.EdgesLemmas.{switches_none}
use Rattle.judge_graphs.proofs.BayEdges.{switches_spend, switches_pass}
use Rattle.judge_pool.proofs.LayeringLemmas.{grew_same, grew_more, grows}
use Rattle.judge_pool.proofs.PlanLemmas.{values_more}
use Rattle.judge_intake.proofs.InputsLemmas.{bay_intake_stays}
use Rattle.judge_pool.proofs.MappedPools.{grows_on}
use Rattle.judge_graphs.proofs.BayLemmas.{inner_none, inner_more}
use Rattle.judge_pool.proofs.ErrorLemmas.{passed_on}
use Rattle.judge_graphs.proofs.bay.own_graphs.Goals as goal

pub loop-i-init : goal.loop-i-init
loop-i-init c = record {
  grew = grew_same c.args.pool.now c.requires.pool;
  notes = c.requires.notes;
  left = omega arith;
  spends = record {
    edges = 0;
    has =
        switches_none c.args.pool.now.view c.args.station.now c.args.own.now.bay.0 (AreSoMany c.args.station.now)
        c.args.own.now.first c.args.own.now.count;
    all = omega arith;
  };
  inner =
      λ a. subst (λ (gs : List Layered). AreInner c.args.pool.now.view (lettered c.args.station.now a) c.args.own.now.bay.0
      c.args.own.now.first c.args.own.now.count
      (values_at (map (mapped (node_listed c.args.own.now.nodes)) c.args.pool.now.values.items)
      c.args.common.now.names.items) gs 0)
      (sym c.new-graphs.ensures.items) (inner_none c.args.pool.now.view (lettered c.args.station.now a) c.args.own.now.bay.0
      c.args.own.now.first c.args.own.now.count
      (values_at (map (mapped (node_listed c.args.own.now.nodes)) c.args.pool.now.values.items)
      c.args.common.now.names.items));
}

pub inner_graph-requires-clause-moved : goal.inner_graph-requires-clause-moved
inner_graph-requires-clause-moved c = record {
  one_more = omega (arith, c.loop-i-test.true);
  from = omega arith;
  below = omega (arith, c.loop-i-test.true);
}

pub inner_graph-requires-clause-common : goal.inner_graph-requires-clause-common
inner_graph-requires-clause-common c =
    let f : ℕ → ℕ = node_listed c.args.own.now.nodes in
    let p0 = c.args.pool.now in
    let p = c.loop-i.pool in
    bay_intake_stays (pool_on f p0) (pool_on f p) (grows_on f p0 p (grows p0 p c.loop-i.invariant.grew))
    c.args.station.now c.args.own.now.bay.0 c.args.own.now.first c.args.own.now.count c.args.common.now
    c.requires.common

pub loop-i-preserved : goal.loop-i-preserved
loop-i-preserved c =
    let p0 = c.args.pool.now in
    let p = c.loop-i.pool in
    let q = c.inner_graph.new.pool in
    let g = c.in_ok-made.ensures.grew in
    let i = c.loop-i.i in
    let made : Layered = c.in_ok-made.made.graph in
    let f : ℕ → ℕ = node_listed c.args.own.now.nodes in
    let names : List ℕ = c.args.common.now.names.items in
    let old : List Answers = values_at (map (mapped f) p0.values.items) names in
    let same = values_more (map (mapped f) p0.values.items) (map (mapped f) p.values.items) names
    (grows_on f p0 p (grows p0 p c.loop-i.invariant.grew)).values c.requires.common.named.within in
    record {
      grew = grew_more p0 p q c.loop-i.invariant.grew g;
      notes = c.in_ok-made.ensures.notes;
      left = omega (arith, c.in_ok-made.ensures.left, c.loop-i.invariant.left);
      spends =
          switches_spend p0.view c.args.station.now c.args.own.now.bay.0 c.args.own.now.first c.args.own.now.count i c.args.left c.loop-i.rest
          c.in_ok-made.made.left c.loop-i-test.true c.loop-i.invariant.spends
          (subst
          (λ w. Spends (InnerHas w c.args.station.now c.args.own.now.bay.0 (c.args.own.now.first + i) c.args.own.now.first (c.args.own.now.count - 1)
          (c.args.own.now.count - 1)) c.args.station.now c.loop-i.rest c.in_ok-made.made.left) c.loop-i.invariant.grew.view
          c.in_ok-made.ensures.spent);
      inner = λ a.
          let here : IsInner p0.view (lettered c.args.station.now a) c.args.own.now.bay.0 (c.args.own.now.first + i) c.args.own.now.first
          (c.args.own.now.count - 1) old made =
          subst (λ w. IsInner w (lettered c.args.station.now a) c.args.own.now.bay.0 (c.args.own.now.first + i) c.args.own.now.first
          (c.args.own.now.count - 1) old made) c.loop-i.invariant.grew.view
          (subst (λ xs. IsInner p.view (lettered c.args.station.now a) c.args.own.now.bay.0 (c.args.own.now.first + i) c.args.own.now.first
          (c.args.own.now.count - 1) xs made) same (c.in_ok-made.ensures.inner a)) in
          let new : IsInnerAt p0.view (lettered c.args.station.now a) c.args.own.now.bay.0 c.args.own.now.first c.args.own.now.count old i
          made = record {
            others = c.args.own.now.count - 1;
            one_more = omega (arith, c.loop-i-test.true);
            graph = here;
            labels = c.in_ok-made.ensures.labels ∙ ap labels_of c.loop-i.invariant.grew.view;
            reduced = c.in_ok-made.ensures.reduced;
            small =
                subst (λ w. InnerIsSmall w c.args.station.now c.args.own.now.bay.0 (c.args.own.now.first + i) c.args.own.now.first
                (c.args.own.now.count - 1) made) c.loop-i.invariant.grew.view c.in_ok-made.ensures.small;
          } in
          subst (λ (gs : List Layered). AreInner p0.view (lettered c.args.station.now a) c.args.own.now.bay.0 c.args.own.now.first
          c.args.own.now.count old gs (i + 1)) (sym c.in_ok-push.ensures.items)
          (inner_more p0.view (lettered c.args.station.now a) c.args.own.now.bay.0 c.args.own.now.first c.args.own.now.count old
          c.loop-i.graphs.items i made (c.loop-i.invariant.inner a) new);
    }

pub returns-clause-inner : goal.returns-clause-inner
returns-clause-inner c a =
    let done : c.loop-i.i ≡ c.args.own.now.count = omega (arith, c.loop-i.auto.i-end, c.loop-i-test.false) in
    subst (λ n. AreInner c.args.pool.now.view (lettered c.args.station.now a) c.args.own.now.bay.0 c.args.own.now.first c.args.own.now.count
    (values_at (map (mapped (node_listed c.args.own.now.nodes)) c.args.pool.now.values.items) c.args.common.now.names.items)
    c.loop-i.graphs.items n) done (c.loop-i.invariant.inner a)

pub returns-clause-spent : goal.returns-clause-spent
returns-clause-spent c =
    let done : c.loop-i.i ≡ c.args.own.now.count = omega (arith, c.loop-i.auto.i-end, c.loop-i-test.false) in
    subst (λ n. Spends (SwitchesHave c.args.pool.now.view c.args.station.now c.args.own.now.bay.0 c.args.own.now.first c.args.own.now.count n)
    c.args.station.now c.args.left c.loop-i.rest) done c.loop-i.invariant.spends

pub returns-in_err-made-clause-wide : goal.returns-in_err-made-clause-wide
returns-in_err-made-clause-wide c = passed_on _ _ c.from_residual.result c.from_residual.ensures.1 (λ trouble same is.
    let d = c.args.station.now in
    let b = c.args.own.now.bay.0 in
    let first = c.args.own.now.first in
    let count = c.args.own.now.count in
    let i = c.loop-i.i in
    switches_pass c.args.pool.now.view d b first count i c.args.left c.loop-i.rest c.loop-i-test.true
    c.loop-i.invariant.spends
    (subst (λ w. Passes (InnerHas w d b (first + i) first (count - 1) (count - 1)) d c.loop-i.rest)
    c.loop-i.invariant.grew.view (c.in_err-made.ensures.wide (sym same ∙ is))))
