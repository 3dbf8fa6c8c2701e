use Rattle.std.proofs.Common.{◌∙◌, subst, sym}
use Rattle.decision_graphs.specs.Label.{Layered, AreLayers}
use Rattle.judge_graphs.specs.declared.noted.Intake.{Intake}
use Rattle.judge_pool.specs.Lettered.{Lettered, lettered}
use Rattle.judge_pool.specs.Layering.{values_at}
use Rattle.judge_pool.specs.Graphs.{IsOuter}
use Rattle.judge_pool.specs.Counted.{OuterHas, Spends, Passes, OuterIsSmall}
use Rattle.judge_pool.specs.Plans.{outer_plan}
use Rattle.judge_graphs.specs.Noting.{letter_rows}
use Rattle.judge_pool.proofs.LayeringLemmas.{grew_more, grows}
use Rattle.judge_pool.proofs.MappedPools.{order_self}
use Rattle.judge_graphs.proofs.NotingLemmas.{outer_stay, fits_self}
use Rattle.judge_intake.proofs.OuterFits.{outer_fits}
use Rattle.judge_graphs.proofs.OuterEdges.{outer_passes}
use Rattle.judge_graphs.proofs.OuterGraphs.{outer_linked}
use Rattle.judge_graphs.proofs.OuterTaken.{taken_outer, taken_small, taken_names, taken_spends, taken_left}
use Rattle.judge_graphs.proofs.OuterTaken.{taken_reduced}
use Rattle.judge_pool.proofs.ErrorLemmas.{passed_on}
use Rattle.judge_graphs.proofs.outer.outer_graph.Goals as goal

pub taken-requires-clause-notes : goal.taken-requires-clause-notes
taken-requires-clause-notes c =
    outer_stay c.args.pool.now c.outer_intake.new.pool
    (grows c.args.pool.now c.outer_intake.new.pool c.in_ok-intake.ensures.grew) c.args.notes.now.items c.requires.notes

pub taken-requires-clause-linked : goal.taken-requires-clause-linked
taken-requires-clause-linked c =
    let i : Intake = c.in_ok-intake.intake in
    outer_linked (lettered c.args.station.now c.args.parts.now) c.args.bay.0 c.outer_intake.new.pool i.start
    (letter_rows i) i.keeps.items c.in_ok-intake.ensures.ready

pub returns-clause-grew : goal.returns-clause-grew
returns-clause-grew c =
    grew_more c.args.pool.now c.outer_intake.new.pool c.taken.new.pool c.in_ok-intake.ensures.grew
    c.in_ok-outer.ensures.grew

pub returns-clause-outer : goal.returns-clause-outer
returns-clause-outer c =
    let a : Lettered = lettered c.args.station.now c.args.parts.now in
    let q = c.taken.new.pool in
    subst (λ w. IsOuter w a c.args.bay.0 c.in_ok-outer.outer.graph.value
    (values_at q.values.items c.in_ok-outer.outer.names.items)) c.in_ok-intake.ensures.grew.view
    (taken_outer a c.args.bay.0 c.args.others c.args.left c.outer_intake.new.pool q c.in_ok-intake.intake
    c.in_ok-outer.outer c.part_count-count.ensures.station c.requires.count c.requires.bay c.in_ok-intake.ensures.ready
    c.in_ok-outer.ensures.grew c.in_ok-outer.ensures.taken
    (subst (λ (g : Layered). AreLayers g.labels g.layers) c.as_ref.ensures c.labels-labels.ensures.layered))

pub returns-clause-small : goal.returns-clause-small
returns-clause-small c =
    let a : Lettered = lettered c.args.station.now c.args.parts.now in
    subst (λ w. OuterIsSmall w c.args.station.now c.args.bay.0 c.in_ok-outer.outer.graph.value)
    c.in_ok-intake.ensures.grew.view
    (taken_small a c.args.bay.0 c.args.others c.args.left c.outer_intake.new.pool c.taken.new.pool c.in_ok-intake.intake
    c.in_ok-outer.outer c.part_count-count.ensures.station c.requires.count c.requires.bay c.in_ok-intake.ensures.ready
    c.in_ok-outer.ensures.grew c.in_ok-outer.ensures.taken)

pub returns-clause-names : goal.returns-clause-names
returns-clause-names c =
    taken_names (lettered c.args.station.now c.args.parts.now) c.args.bay.0 c.args.others c.args.left
    c.outer_intake.new.pool c.taken.new.pool c.in_ok-intake.intake c.in_ok-outer.outer
    c.part_count-count.ensures.station c.requires.count c.requires.bay c.in_ok-intake.ensures.ready
    c.in_ok-outer.ensures.grew c.in_ok-outer.ensures.taken

pub returns-clause-spent : goal.returns-clause-spent
returns-clause-spent c =
    subst (λ w. Spends (OuterHas w c.args.station.now c.args.bay.0 c.args.others) c.args.station.now c.args.left
    c.in_ok-outer.outer.left) c.in_ok-intake.ensures.grew.view
    (taken_spends (lettered c.args.station.now c.args.parts.now) c.args.bay.0 c.args.others c.args.left
    c.outer_intake.new.pool c.taken.new.pool c.in_ok-intake.intake c.in_ok-outer.outer
    c.part_count-count.ensures.station c.requires.count c.requires.bay c.in_ok-intake.ensures.ready
    c.in_ok-outer.ensures.grew c.in_ok-outer.ensures.taken)

pub returns-clause-names_few : goal.returns-clause-names_few
returns-clause-names_few c = c.in_ok-outer.ensures.few

pub returns-clause-left : goal.returns-clause-left
returns-clause-left c =
    taken_left (lettered c.args.station.now c.args.parts.now) c.args.bay.0 c.args.others c.args.left
    c.outer_intake.new.pool c.taken.new.pool c.in_ok-intake.intake c.in_ok-outer.outer
    c.part_count-count.ensures.station c.requires.count c.requires.bay c.in_ok-intake.ensures.ready
    c.in_ok-outer.ensures.grew c.in_ok-outer.ensures.taken

pub returns-clause-reduced : goal.returns-clause-reduced
returns-clause-reduced c =
    taken_reduced (lettered c.args.station.now c.args.parts.now) c.args.bay.0 c.args.others c.args.left
    c.outer_intake.new.pool c.taken.new.pool c.in_ok-intake.intake c.in_ok-outer.outer
    c.part_count-count.ensures.station c.requires.count c.requires.bay c.in_ok-intake.ensures.ready
    c.in_ok-outer.ensures.grew c.in_ok-outer.ensures.taken

pub returns-in_err-outer-clause-wide : goal.returns-in_err-outer-clause-wide
returns-in_err-outer-clause-wide c =
    passed_on _ _ c.from_residual-in_err-outer.result c.from_residual-in_err-outer.ensures.1 (λ trouble same is.
    let a : Lettered = lettered c.args.station.now c.args.parts.now in
    let b = c.args.bay.0 in
    let p = c.outer_intake.new.pool in
    let i : Intake = c.in_ok-intake.intake in
    let ready = c.in_ok-intake.ensures.ready in
    let passes = outer_passes p.view a b p i.start (letter_rows i) i.keeps.items ready c.args.left
    (c.in_err-outer.ensures.wide (sym same ∙ is) (λ n. n) (outer_plan a b) order_self (fits_self p i.start
    (letter_rows i) i.keeps.items (outer_linked a b p i.start (letter_rows i) i.keeps.items ready) (outer_plan a b)
    (outer_fits a b p i.start (letter_rows i) i.keeps.items ready))) in
    subst (λ w. Passes (OuterHas w c.args.station.now b c.args.others) c.args.station.now c.args.left)
    c.in_ok-intake.ensures.grew.view
    (subst (λ n. Passes (OuterHas p.view c.args.station.now b n) c.args.station.now c.args.left)
    c.in_ok-intake.ensures.count passes))
