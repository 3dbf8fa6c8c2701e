use Rattle.std.proofs.Common.{suc, ap, ◌∙◌}
use Rattle.decision_graphs.specs.Label.{Layered}
use Rattle.judge_pool.specs.Lettered.{Lettered, lettered}
use Rattle.judge_graphs.specs.BuiltView.{view_of}
use Rattle.judge_graphs.proofs.MergedLemmas.{merged_is}
use Rattle.release_compile.proofs.HeardLemmas.{says_at, in_a_row, side_is}
use Rattle.release_compile.proofs.sides.view_side.Goals as goal

pub side-requires-clause-row : goal.side-requires-clause-row
side-requires-clause-row c =
    let p = c.args.place in
    let a : Lettered = lettered c.args.station.now c.args.parts.now in
    let gs = c.requires.graphs in
    let h : Layered = c.index-inner.result.now in
    let x = says_at c.args.view a p.bay.0 c.args.switch.0 p.first p.others c.requires.own (view_of c.args.graphs.now)
    gs c.from-index.result h c.from-index.ensures c.index-inner.ensures in
    rw c.as_ref.ensures (in_a_row c.args.view a p.bay.0 c.args.switch.0 p.first p.others
    c.args.graphs.now.merged.value h x.graph)

pub side-requires-clause-count : goal.side-requires-clause-count
side-requires-clause-count c =
    let p = c.args.place in
    let a : Lettered = lettered c.args.station.now c.args.parts.now in
    (says_at c.args.view a p.bay.0 c.args.switch.0 p.first p.others c.requires.own (view_of c.args.graphs.now)
    c.requires.graphs c.from-index.result c.index-inner.result.now c.from-index.ensures
    c.index-inner.ensures).graph.count

pub side-requires-clause-two : goal.side-requires-clause-two
side-requires-clause-two c =
    let p = c.args.place in
    let a : Lettered = lettered c.args.station.now c.args.parts.now in
    (says_at c.args.view a p.bay.0 c.args.switch.0 p.first p.others c.requires.own (view_of c.args.graphs.now)
    c.requires.graphs c.from-index.result c.index-inner.result.now c.from-index.ensures
    c.index-inner.ensures).graph.choices

pub returns-clause-side : goal.returns-clause-side
returns-clause-side c =
    let p = c.args.place in
    let a : Lettered = lettered c.args.station.now c.args.parts.now in
    let gs = c.requires.graphs in
    let h : Layered = c.index-inner.result.now in
    let x = says_at c.args.view a p.bay.0 c.args.switch.0 p.first p.others c.requires.own (view_of c.args.graphs.now)
    gs c.from-index.result h c.from-index.ensures c.index-inner.ensures in
    let e = c.in_ok-made.ensures in
    side_is c.args.view a p.bay.0 c.args.switch.0 p.first p.others c.args.own.now c.args.sets.now c.in_ok-made.made
    c.args.graphs.now.merged.value h
    (merged_is c.args.view a p.bay.0 p.first (suc p.others) (view_of c.args.graphs.now) gs) x.graph (e.outer ∙ c.as_ref.ensures) e.inner e.ready e.own

pub returns-clause-labels : goal.returns-clause-labels
returns-clause-labels c =
    let p = c.args.place in
    let a : Lettered = lettered c.args.station.now c.args.parts.now in
    let x = says_at c.args.view a p.bay.0 c.args.switch.0 p.first p.others c.requires.own (view_of c.args.graphs.now)
    c.requires.graphs c.from-index.result c.index-inner.result.now c.from-index.ensures c.index-inner.ensures in
    ap (λ (g : Layered). g.labels) c.in_ok-made.ensures.inner ∙ x.labels
