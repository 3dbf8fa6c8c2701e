use Rattle.std.proofs.Common.{◌≡◌, ◌∙◌, ◌-◌, suc, ℕ, List, Vec, Global, map, sym, subst}
use Rattle.std.proofs.Common.{arith}
use Rattle.contraction.specs.Answers.{Answers}
use Rattle.judge_pool.specs.declared.pool.Pool.{Pool}
use Rattle.judge_pool.specs.Lettered.{Lettered, lettered}
use Rattle.judge_pool.specs.Layering.{values_at}
use Rattle.judge_pool.specs.Graphs.{IsOuter}
use Rattle.station_graph.specs.Diagram.{part_count}
use Rattle.judge_pool.specs.Counted.{OuterHas, SwitchesHave, Spends, Passes, OuterIsSmall}
use Rattle.judge_graphs.specs.Built.{AreInner}
use Rattle.judge_graphs.proofs.BayEdges.{view_spends, outer_view_passes, inner_view_passes}
use Rattle.judge_pool.proofs.ErrorLemmas.{passed_on}
use Rattle.judge_pool.proofs.LayeringLemmas.{grew_more, grows}
use Rattle.judge_intake.proofs.InputsLemmas.{letters_stay}
use Rattle.judge_graphs.proofs.NotingLemmas.{outer_stay}
use Rattle.judge_graphs.proofs.LabellingLemmas.{inner_notes_stay}
use Rattle.judge_graphs.proofs.bay.view_graphs.Goals as goal

pub inner_graphs-requires-clause-notes : goal.inner_graphs-requires-clause-notes
inner_graphs-requires-clause-notes c =
    let p0 : Pool = c.args.stock.now.pool in
    let p1 : Pool = c.outer_graph.new.pool in
    inner_notes_stay p0 p1 (grows p0 p1 c.in_ok-outer.ensures.grew) c.args.stock.now.inner c.requires.stock.inner

pub outer_graph-requires-clause-letters : goal.outer_graph-requires-clause-letters
outer_graph-requires-clause-letters c = rw c.deref.ensures.value c.requires.stock.letters

pub returns-clause-stock : goal.returns-clause-stock
returns-clause-stock c =
    let a : Lettered = lettered c.args.station.now c.args.parts.now in
    let p0 : Pool = c.args.stock.now.pool in
    let p1 : Pool = c.outer_graph.new.pool in
    let p2 : Pool = c.inner_graphs.new.pool in
    let g1 = c.in_ok-outer.ensures.grew in
    let g2 = c.in_ok-inners.ensures.grew in
    record {
      pool = g2.is_pool;
      of_view = g2.view ∙ (g1.view ∙ c.requires.stock.of_view);
      letters =
          letters_stay p0 p2 (grows p0 p2 (grew_more p0 p1 p2 g1 g2)) a
          (map (λ (v : Vec ℕ Global). v.items) c.args.stock.now.letters.items) (part_count c.args.station.now)
          c.requires.stock.letters;
      outer = outer_stay p1 p2 (grows p1 p2 g2) c.outer_graph.new.notes.items c.in_ok-outer.ensures.notes;
      inner = c.in_ok-inners.ensures.notes;
    }

pub returns-clause-graphs : goal.returns-clause-graphs
returns-clause-graphs c =
    let d = c.args.station.now in
    let a : Lettered = lettered d c.args.parts.now in
    let b = c.args.own.now.bay.0 in
    let first = c.args.own.now.first in
    let count = c.args.own.now.count in
    let p1 : Pool = c.outer_graph.new.pool in
    let names : List Answers = values_at p1.values.items c.in_ok-outer.outer.names.items in
    let view0 = c.requires.stock.of_view in
    let inner = rw c.deref-2.ensures.value at (c.in_ok-inners.ensures.inner c.args.parts.now) in
    record {
      names = names;
      outer = subst (λ w. IsOuter w a b c.in_ok-outer.outer.graph.value names) view0 c.in_ok-outer.ensures.outer;
      outer_reduced = c.in_ok-outer.ensures.reduced;
      outer_small = subst (λ w. OuterIsSmall w d b c.in_ok-outer.outer.graph.value) view0 c.in_ok-outer.ensures.small;
      inner =
          subst (λ w. AreInner w a b first count names c.in_ok-inners.inners.graphs.items count)
          (c.in_ok-outer.ensures.grew.view ∙ view0) inner;
    }

pub returns-clause-spent : goal.returns-clause-spent
returns-clause-spent c =
    let d = c.args.station.now in
    let b = c.args.own.now.bay.0 in
    let first = c.args.own.now.first in
    let count = c.args.own.now.count in
    let view0 = c.requires.stock.of_view in
    let others : ℕ = c.part_count-others.result - 1 in
    let e : suc others ≡ part_count d = omega (arith, c.requires.own.bay, c.part_count-others.ensures.count) in
    let outer = subst (λ w. Spends (OuterHas w d b others) d c.args.left c.in_ok-outer.outer.left) view0
    c.in_ok-outer.ensures.spent in
    let inner = subst
    (λ w. Spends (SwitchesHave w d b first count count) d c.in_ok-outer.outer.left c.in_ok-inners.inners.left)
    (c.in_ok-outer.ensures.grew.view ∙ view0) c.in_ok-inners.ensures.spent in
    view_spends c.args.view d b first count others e c.args.left c.in_ok-outer.outer.left
    c.in_ok-inners.inners.left outer inner

pub returns-in_err-outer-clause-wide : goal.returns-in_err-outer-clause-wide
returns-in_err-outer-clause-wide c = passed_on _ _ c.from_residual.result c.from_residual.ensures.1 (λ trouble same is.
    let d = c.args.station.now in
    let b = c.args.own.now.bay.0 in
    let others : ℕ = c.part_count-others.result - 1 in
    let e : suc others ≡ part_count d = omega (arith, c.requires.own.bay, c.part_count-others.ensures.count) in
    outer_view_passes c.args.view d b c.args.own.now.first c.args.own.now.count others e c.args.left (subst
    (λ w. Passes (OuterHas w d b others) d c.args.left) c.requires.stock.of_view
    (c.in_err-outer.ensures.wide (sym same ∙ is))))

pub returns-in_err-inners-clause-wide : goal.returns-in_err-inners-clause-wide
returns-in_err-inners-clause-wide c =
    passed_on _ _ c.from_residual-in_err-inners.result c.from_residual-in_err-inners.ensures.1 (λ trouble same is.
    let d = c.args.station.now in
    let b = c.args.own.now.bay.0 in
    let first = c.args.own.now.first in
    let count = c.args.own.now.count in
    let view0 = c.requires.stock.of_view in
    let others : ℕ = c.part_count-others.result - 1 in
    let e : suc others ≡ part_count d = omega (arith, c.requires.own.bay, c.part_count-others.ensures.count) in
    let outer = subst (λ w. Spends (OuterHas w d b others) d c.args.left c.in_ok-outer.outer.left) view0
    c.in_ok-outer.ensures.spent in
    let inner = subst (λ w. Passes (SwitchesHave w d b first count count) d c.in_ok-outer.outer.left)
    (c.in_ok-outer.ensures.grew.view ∙ view0) (c.in_err-inners.ensures.wide (sym same ∙ is)) in
    inner_view_passes c.args.view d b first count others e c.args.left c.in_ok-outer.outer.left outer inner)
