use Rattle.std.proofs.Common.{ℕ, List, Vec, Global, length, map, sym, ap, ◌∙◌, subst}
use Rattle.std.proofs.lemmas.List.{length-map}
use Rattle.station_graph.specs.Connection.{a_switch}
use Rattle.decision_graphs.specs.declared.finished.FinishedLayer.{FinishedLayer}
use Rattle.decision_graphs.specs.Finished.{finished}
use Rattle.judge_pool.specs.declared.pool.Pool.{Pool}
use Rattle.judge_pool.specs.Layering.{values_at}
use Rattle.judge_pool.proofs.ErrorLemmas.{passed_on}
use Rattle.judge_pool.proofs.LayeringLemmas.{grew_more}
use Rattle.step_graphs.specs.Ending.{AreEndCodes}
use Rattle.step_graphs.specs.Moved.{IsMovedGraph, IsLabelledFrom}
use Rattle.step_graphs.proofs.SpreadParts.{taken_item}
use Rattle.step_graphs.specs.Edges.{StepsPass, StepsKeep}
use Rattle.step_graphs.proofs.StepSays.{held_linked, moved_of, passes_of, keeps_of}
use Rattle.step_graphs.proofs.graph.moved_graph_in.Goals as goal

abbrev ids_of : List (Vec ℕ Global) → List (List ℕ)
ids_of rows = map (λ (v : Vec ℕ Global). v.items) rows

pub fold_layers-requires-clause-linked : goal.fold_layers-requires-clause-linked
fold_layers-requires-clause-linked c =
    held_linked c.args.station.now c.args.steps.now c.requires.steps c.args.place _ c.args.id.0 c.requires.moved
    c.intake.new.pool c.in_ok-taken.taken.start (ids_of c.in_ok-taken.taken.letters.items)
    c.in_ok-taken.taken.keeps.items c.in_ok-taken.ensures.ready (ids_of c.deref.result.now) c.deref-2.result.now
    (ap ids_of c.deref.ensures.value) c.deref-2.ensures.value

pub end_codes-requires-clause-switch : goal.end_codes-requires-clause-switch
end_codes-requires-clause-switch c =
    taken_item c.args.station.now c.args.steps.now c.requires.steps c.args.place (a_switch c.args.id.0)
    c.requires.moved

pub returns-clause-grew : goal.returns-clause-grew
returns-clause-grew c =
    grew_more c.args.pool.now c.intake.new.pool c.fold_layers.new.pool c.in_ok-taken.ensures.grew
    c.in_ok-drafts.ensures.grew

pub returns-clause-graph : goal.returns-clause-graph
returns-clause-graph c =
    let d = c.args.station.now in
    let m = c.args.id.0 in
    let p : Pool = c.intake.new.pool in
    let q : Pool = c.fold_layers.new.pool in
    let fs : List FinishedLayer = c.in_ok-drafts.drafts.layers.items in
    let states : List ℕ = c.in_ok-drafts.drafts.states.items in
    let codes : List ℕ = c.in_ok-codes.codes.items in
    let are : AreEndCodes q.view d m (values_at q.values.items states) codes =
    subst (λ (l : List ℕ). AreEndCodes q.view d m (values_at q.values.items l) codes) c.deref-3.ensures.value
    c.in_ok-codes.ensures in
    let labelled : IsLabelledFrom c.label_count-count.result codes (map finished fs) c.in_ok-graph.graph =
    subst (λ (l : List ℕ). IsLabelledFrom c.label_count-count.result l (map finished fs) c.in_ok-graph.graph)
    c.deref-5.ensures.value
    (subst (λ (l : List FinishedLayer). IsLabelledFrom c.label_count-count.result c.deref-5.result.now (map finished l)
    c.in_ok-graph.graph) c.deref-4.ensures.value c.in_ok-graph.ensures) in
    subst (λ w. IsMovedGraph w d c.args.steps.now c.args.place m c.in_ok-graph.graph) c.in_ok-taken.ensures.grew.view
    (moved_of d c.args.steps.now c.requires.steps c.args.place _ m c.requires.moved p c.in_ok-taken.taken.start
    (ids_of c.in_ok-taken.taken.letters.items) c.in_ok-taken.taken.keeps.items c.in_ok-taken.ensures.ready
    (ids_of c.deref.result.now) c.deref-2.result.now (ap ids_of c.deref.ensures.value) c.deref-2.ensures.value q
    c.in_ok-drafts.ensures.grew.view (length c.deref.result.now)
    (sym (length-map c.deref.result.now (λ (v : Vec ℕ Global). v.items))) fs states c.in_ok-drafts.ensures.exact
    c.in_ok-drafts.ensures.choices codes are c.in_ok-graph.graph c.label_count-count.result c.label_count-count.ensures
    labelled c.requires.some)

pub returns-in_err-drafts-clause-wide : goal.returns-in_err-drafts-clause-wide
returns-in_err-drafts-clause-wide c =
    passed_on _ _ c.from_residual-in_err-drafts.result c.from_residual-in_err-drafts.ensures.1 (λ trouble same is.
    let d = c.args.station.now in
    let p : Pool = c.intake.new.pool in
    subst (λ w. StepsPass w d c.args.steps.now c.args.place c.args.budget) c.in_ok-taken.ensures.grew.view
    (passes_of d c.args.steps.now c.requires.steps c.args.place _ c.args.id.0 c.requires.moved p
    c.in_ok-taken.taken.start (ids_of c.in_ok-taken.taken.letters.items) c.in_ok-taken.taken.keeps.items
    c.in_ok-taken.ensures.ready (ids_of c.deref.result.now) c.deref-2.result.now (ap ids_of c.deref.ensures.value)
    c.deref-2.ensures.value c.args.budget (c.in_err-drafts.ensures.wide (sym same ∙ is))))

pub returns-clause-room : goal.returns-clause-room
returns-clause-room c =
    let d = c.args.station.now in
    let p : Pool = c.intake.new.pool in
    subst (λ w. StepsKeep w d c.args.steps.now c.args.place c.args.budget) c.in_ok-taken.ensures.grew.view
    (keeps_of d c.args.steps.now c.requires.steps c.args.place _ c.args.id.0 c.requires.moved p
    c.in_ok-taken.taken.start (ids_of c.in_ok-taken.taken.letters.items) c.in_ok-taken.taken.keeps.items
    c.in_ok-taken.ensures.ready (ids_of c.deref.result.now) c.deref-2.result.now (ap ids_of c.deref.ensures.value)
    c.deref-2.ensures.value (length c.deref.result.now)
    (sym (length-map c.deref.result.now (λ (v : Vec ℕ Global). v.items))) c.args.budget c.in_ok-drafts.drafts.left
    c.in_ok-drafts.ensures.spent)
