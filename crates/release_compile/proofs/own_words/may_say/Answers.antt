use Rattle.std.proofs.Common.{◌<◌, ℕ, suc, List, Bool, sym, subst}
use Rattle.decision_graphs.specs.Label.{Layered, Reaches}
use Rattle.judge_pool.specs.Lettered.{Lettered, lettered}
use Rattle.judge_graphs.specs.BuiltView.{view_of}
use Rattle.judge_graphs.proofs.MergedLemmas.{merged_is}
use Rattle.release_compile.proofs.HeardLemmas.{says_at}
use Rattle.release_compile.proofs.OwnLemmas.{says_no_rule}
use Rattle.release_compile.proofs.own_words.may_say.Goals as goal

pub own_sets-requires-clause-count : goal.own_sets-requires-clause-count
own_sets-requires-clause-count c =
    let p = c.args.place in
    let a : Lettered = lettered c.args.station.now c.args.parts.now in
    (says_at c.args.view a p.bay.0 c.args.switch.0 p.first p.others c.requires.own (view_of c.args.graphs.now)
    c.requires.graphs c.from-index.result c.index-inner.result.now c.from-index.ensures
    c.index-inner.ensures).graph.count

pub own_sets-requires-clause-two : goal.own_sets-requires-clause-two
own_sets-requires-clause-two c =
    let p = c.args.place in
    let a : Lettered = lettered c.args.station.now c.args.parts.now in
    (says_at c.args.view a p.bay.0 c.args.switch.0 p.first p.others c.requires.own (view_of c.args.graphs.now)
    c.requires.graphs c.from-index.result c.index-inner.result.now c.from-index.ensures
    c.index-inner.ensures).graph.choices

pub returns : goal.returns
returns c unsaid sets fits =
    let p = c.args.place in
    let m = c.args.switch.0 in
    let a : Lettered = lettered c.args.station.now c.args.parts.now in
    let gs = c.requires.graphs in
    let outer : Layered = c.args.graphs.now.merged.value in
    let inner : Layered = c.index-inner.result.now in
    let inner_sets : List (List Bool) = c.in_ok-sets.sets in
    let x = says_at c.args.view a p.bay.0 m p.first p.others c.requires.own (view_of c.args.graphs.now) gs
    c.from-index.result inner c.from-index.ensures c.index-inner.ensures in
    let marks = c.in_ok-marks.marks in
    let none : (label : ℕ) → 0 < label → label < inner.labels → Reaches inner inner_sets label → ⊥ =
    λ label some label_in leads. c.says_some.ensures unsaid label some (subst (λ n. label < n) (sym c.labels.ensures.count) label_in)
    ((c.in_ok-marks.ensures.reached label label_in).1 leads) in
    says_no_rule c.args.view a p.bay.0 m p.first p.others c.args.own.now sets inner_sets outer inner
    c.requires.own (merged_is c.args.view a p.bay.0 p.first (suc p.others) (view_of c.args.graphs.now) gs) x.graph fits c.in_ok-sets.ensures.sets c.in_ok-sets.ensures.own
    c.in_ok-sets.ensures.labels none
