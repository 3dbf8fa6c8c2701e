use Rattle.std.proofs.Common.{ℕ, subst, sym}
use Rattle.judge_pool.specs.declared.pool.Pool.{Pool}
use Rattle.judge_pool.specs.Lettered.{lettered}
use Rattle.judge_pool.specs.Places.{node_listed, pool_on}
use Rattle.judge_intake.specs.Inputs.{IsBayIntake}
use Rattle.judge_intake.specs.Ready.{IsInnerReady}
use Rattle.judge_intake.proofs.OwnBayLemmas.{is_own}
use Rattle.judge_pool.proofs.LayeringLemmas.{grows}
use Rattle.judge_pool.proofs.MappedPools.{grows_on}
use Rattle.judge_graphs.proofs.InnerGraphs.{inner_ready}
use Rattle.judge_graphs.proofs.inner.inner_intake.Goals as goal

pub returns-clause-ready : goal.returns-clause-ready
returns-clause-ready c letters =
    let f : ℕ → ℕ = node_listed c.args.own.now.nodes in
    let p : Pool = c.args.pool.now in
    let q : Pool = c.inner_keeps.new.pool in
    let b = c.args.own.now.bay.0 in
    let m = c.args.moved in
    let first = c.args.own.now.first in
    let others = c.args.others in
    let w = c.in_ok-letters.ensures in
    subst (λ rows. IsInnerReady (lettered c.args.station.now letters) b m first others (pool_on f q)
    c.args.common.now.start c.args.common.now.names.items rows c.in_ok-keeps.keeps.items) (sym w.1)
    (inner_ready (lettered c.args.station.now letters) b m first others (pool_on f p) (pool_on f q) c.args.common.now w.0
    c.in_ok-keeps.keeps.items c.switch_count-count.ensures.station c.requires.own.bay
    (is_own c.args.station.now c.args.own.now c.requires.own m others c.requires.moved)
    (grows_on f p q (grows p q c.in_ok-keeps.ensures.grew)) (subst (λ k. IsBayIntake (pool_on f p) c.args.station.now b first k c.args.common.now) c.requires.moved.one_more
    c.requires.common) c.in_ok-keeps.ensures.keeps w.2)
