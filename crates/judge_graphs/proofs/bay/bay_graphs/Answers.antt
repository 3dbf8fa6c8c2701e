use Rattle.std.proofs.Common.{◌∙◌, sym, subst, arith}
use Rattle.station_graph.specs.Diagram.{AreSwitchesOf}
use Rattle.ilk_base.specs.declared.words.BayId.{BayId}
use Rattle.judge_pool.specs.declared.view.View.TheVariants.{Gap, Load}
use Rattle.judge_pool.specs.Counted.{BayHas, Spends, Passes}
use Rattle.judge_pool.specs.Lettered.{lettered}
use Rattle.judge_graphs.specs.Built.{AreUnmerged}
use Rattle.judge_graphs.specs.BuiltView.{view_of}
use Rattle.judge_graphs.proofs.PartnerLemmas.{inners_of, are_told}
use Rattle.judge_graphs.proofs.TellingLemmas.{unmerged_of}
use Rattle.judge_pool.proofs.ErrorLemmas.{passed_on}
use Rattle.judge_graphs.proofs.BayEdges.{bay_spends, gap_passes, load_passes}
use Rattle.judge_graphs.proofs.bay.bay_graphs.Goals as goal

pub returns-in_err-gap-clause-wide : goal.returns-in_err-gap-clause-wide
returns-in_err-gap-clause-wide c =
    passed_on _ _ c.from_residual-in_err-gap.result c.from_residual-in_err-gap.ensures.1 (λ trouble same is.
    let d = c.args.station.now in
    let own = c.in_ok-own.own in
    let mine = c.in_ok-own.ensures.own in
    subst (λ (b : BayId). Passes (BayHas d b.0) d c.args.left) c.in_ok-own.ensures.bay
    (gap_passes d c.args.parts.now c.requires.lettered own.bay.0 own.first own.count mine.bay mine.switches c.args.left
    (c.in_err-gap.ensures.wide (sym same ∙ is))))

pub returns-in_err-load-clause-wide : goal.returns-in_err-load-clause-wide
returns-in_err-load-clause-wide c =
    passed_on _ _ c.from_residual-in_err-load.result c.from_residual-in_err-load.ensures.1 (λ trouble same is.
    let d = c.args.station.now in
    let own = c.in_ok-own.own in
    let mine = c.in_ok-own.ensures.own in
    subst (λ (b : BayId). Passes (BayHas d b.0) d c.args.left) c.in_ok-own.ensures.bay
    (load_passes d c.args.parts.now c.requires.lettered own.bay.0 own.first own.count mine.bay mine.switches c.args.left
    c.in_ok-gap.gap.left c.in_ok-gap.ensures.spent (c.in_err-load.ensures.wide (sym same ∙ is))))

pub returns-clause-spent : goal.returns-clause-spent
returns-clause-spent c =
    let d = c.args.station.now in
    let own = c.in_ok-own.own in
    let mine = c.in_ok-own.ensures.own in
    subst (λ (b : BayId). Spends (BayHas d b.0) d c.args.left c.in_ok-load.load.left) c.in_ok-own.ensures.bay
    (bay_spends d c.args.parts.now c.requires.lettered own.bay.0 own.first own.count mine.bay mine.switches c.args.left
    c.in_ok-gap.gap.left c.in_ok-load.load.left c.in_ok-gap.ensures.spent c.in_ok-load.ensures.spent)

pub merge_both-requires-clause-same : goal.merge_both-requires-clause-same
merge_both-requires-clause-same c =
    let gap = c.in_ok-gap.ensures.graphs in
    let load = c.in_ok-load.ensures.graphs in
    omega (arith, gap.outer.count, load.outer.count)

pub merge_both-requires-clause-gap_inners : goal.merge_both-requires-clause-gap_inners
merge_both-requires-clause-gap_inners c =
    let own = c.in_ok-own.own in
    let g = c.in_ok-gap.gap.graphs in
    inners_of Gap (lettered c.args.station.now c.args.parts.now) own.bay.0 own.first own.count g.outer.value g.inner.items
    c.in_ok-gap.ensures.graphs

pub merge_both-requires-clause-load_inners : goal.merge_both-requires-clause-load_inners
merge_both-requires-clause-load_inners c =
    let own = c.in_ok-own.own in
    let g = c.in_ok-load.load.graphs in
    inners_of Load (lettered c.args.station.now c.args.parts.now) own.bay.0 own.first own.count g.outer.value g.inner.items
    c.in_ok-load.ensures.graphs

pub merge_both-requires-clause-gap_reduced : goal.merge_both-requires-clause-gap_reduced
merge_both-requires-clause-gap_reduced c = let g = c.in_ok-gap.ensures.graphs in g.outer_reduced

pub merge_both-requires-clause-load_reduced : goal.merge_both-requires-clause-load_reduced
merge_both-requires-clause-load_reduced c = let g = c.in_ok-load.ensures.graphs in g.outer_reduced

pub returns-clause-graphs : goal.returns-clause-graphs
returns-clause-graphs c =
    let d = c.args.station.now in
    let a = lettered d c.args.parts.now in
    let own = c.in_ok-own.own in
    let same = c.in_ok-own.ensures.bay in
    let both = c.in_ok-both.both in
    let merged = c.in_ok-both.ensures.merged in
    let switches = subst (λ (b : BayId). AreSwitchesOf d b.0 own.first own.count) same
    c.in_ok-own.ensures.own.switches in
    let gap = subst (λ (b : BayId). AreUnmerged Gap a b.0 own.first own.count both.gap.outer.value both.gap.inner.items) same
    (unmerged_of Gap a own.bay.0 own.first own.count both.gap c.in_ok-gap.gap.graphs c.in_ok-both.ensures.gap
    c.in_ok-gap.ensures.graphs) in
    let load = subst (λ (b : BayId). AreUnmerged Load a b.0 own.first own.count both.load.outer.value both.load.inner.items) same
    (unmerged_of Load a own.bay.0 own.first own.count both.load c.in_ok-load.load.graphs c.in_ok-both.ensures.load
    c.in_ok-load.ensures.graphs) in
    record {
      switches = switches;
      gap = record { unmerged = gap; merged = merged.gap_merged };
      load = record { unmerged = load; merged = merged.load_merged };
      told =
          are_told a c.args.bay.0 own.first own.count (view_of both.gap) (view_of both.load) both.told.items
          (record { station = c.is_station.ensures; alphabets = c.requires.lettered }) switches gap load
          merged.tells.count merged.tells.tells;
    }

pub returns-clause-gap : goal.returns-clause-gap
returns-clause-gap c =
    let s = c.in_ok-gap.ensures.stock in
    record { pool = s.pool; of_view = s.of_view; letters = s.letters; outer = s.outer; inner = s.inner }

pub returns-clause-load : goal.returns-clause-load
returns-clause-load c =
    let s = c.in_ok-load.ensures.stock in
    record { pool = s.pool; of_view = s.of_view; letters = s.letters; outer = s.outer; inner = s.inner }
