use Rattle.std.proofs.Common.{◌∙◌, ℕ, List, get_or, sym, subst, arith}
use Rattle.std.proofs.lemmas.List.{length-map}
use Rattle.contraction.specs.Answers.{Answers}
use Rattle.judge_pool.specs.declared.pool.Pool.{Pool}
use Rattle.judge_pool.specs.Lettered.{Lettered, lettered}
use Rattle.judge_pool.specs.Places.{node_listed, pool_on}
use Rattle.judge_pool.specs.Layering.{values_at, no_answers}
use Rattle.judge_graphs.specs.Built.{AreInner}
use Rattle.judge_pool.specs.Counted.{SwitchesHave, Spends, Passes}
use Rattle.judge_pool.proofs.LayeringLemmas.{grew_more, grows}
use Rattle.judge_graphs.proofs.LabellingLemmas.{inner_notes_stay}
use Rattle.judge_graphs.proofs.BayLemmas.{inner_all_for}
use Rattle.judge_pool.proofs.ErrorLemmas.{passed_on}
use Rattle.judge_graphs.proofs.bay.inner_graphs.Goals as goal

pub own_graphs-requires-clause-notes : goal.own_graphs-requires-clause-notes
own_graphs-requires-clause-notes c =
    let p0 : Pool = c.args.pool.now in
    let p1 : Pool = c.bay_intake.new.pool in
    inner_notes_stay p0 p1 (grows p0 p1 c.in_ok-common.ensures.grew) c.args.notes.now c.requires.notes

pub own_graphs-requires-clause-few : goal.own_graphs-requires-clause-few
own_graphs-requires-clause-few c = omega (
  arith,
  c.requires.few,
  c.in_ok-common.ensures.copies.len,
  length-map c.args.names.now (λ k. get_or c.args.pool.now.values.items k no_answers),
)

pub returns-clause-grew : goal.returns-clause-grew
returns-clause-grew c =
    grew_more c.args.pool.now c.bay_intake.new.pool c.own_graphs.new.pool c.in_ok-common.ensures.grew
    c.in_ok-inners.ensures.grew

pub returns-clause-inner : goal.returns-clause-inner
returns-clause-inner c letters =
    let d = c.args.station.now in
    let a : Lettered = lettered d letters in
    let b = c.args.own.now.bay.0 in
    let first = c.args.own.now.first in
    let count = c.args.own.now.count in
    let f : ℕ → ℕ = node_listed c.args.own.now.nodes in
    let p0 : Pool = c.args.pool.now in
    let p1 : Pool = c.bay_intake.new.pool in
    let values : List Answers = values_at p0.values.items c.args.names.now in
    subst (λ w. AreInner w a b first count values c.in_ok-inners.inners.graphs.items count)
    c.in_ok-common.ensures.grew.view
    (inner_all_for a b c.switch_count-count.ensures.station c.requires.own.bay (pool_on f p1) values
    c.in_ok-common.common.names.items c.in_ok-common.ensures.copies first count c.in_ok-inners.inners.graphs.items count
    (c.in_ok-inners.ensures.inner letters))

pub returns-clause-spent : goal.returns-clause-spent
returns-clause-spent c =
    subst (λ w. Spends (SwitchesHave w c.args.station.now c.args.own.now.bay.0 c.args.own.now.first c.args.own.now.count c.args.own.now.count)
    c.args.station.now c.args.left c.in_ok-inners.inners.left) c.in_ok-common.ensures.grew.view
    c.in_ok-inners.ensures.spent

pub returns-in_err-inners-clause-wide : goal.returns-in_err-inners-clause-wide
returns-in_err-inners-clause-wide c =
    passed_on _ _ c.from_residual-in_err-inners.result c.from_residual-in_err-inners.ensures.1 (λ trouble same is.
    subst (λ w. Passes (SwitchesHave w c.args.station.now c.args.own.now.bay.0 c.args.own.now.first c.args.own.now.count c.args.own.now.count)
    c.args.station.now c.args.left) c.in_ok-common.ensures.grew.view (c.in_err-inners.ensures.wide (sym same ∙ is)))
