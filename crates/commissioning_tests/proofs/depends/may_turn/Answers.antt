use Rattle.std.proofs.Common.{◌≡◌, ℕ, true, false, length, sym, ap, ◌∙◌, subst}
use Rattle.std.proofs.lemmas.Option.{get_or_from_slice_get, slice_get_within}
use Rattle.ilk_base.specs.declared.words.Op.{Op}
use Rattle.decision_graphs.specs.Reaching.{IsSet}
use Rattle.dependence_search.proofs.DependLemmas.{listed, places_apart}
use Rattle.commissioning_tests.specs.Growing.{AreTurnedLayers}
use Rattle.commissioning_tests.proofs.CoverLemmas.{same_op}
use Rattle.commissioning_tests.proofs.ListLemmas.{place_within}
use Rattle.commissioning_tests.proofs.WalkLemmas.{own_never, unmarked_never}
use Rattle.commissioning_tests.proofs.depends.may_turn.Goals as goal

pub returns-then-switch-op : goal.returns-then-switch-op
returns-then-switch-op c _ op at =
    own_never c.args.walked.now c.requires.walked c.is_station.ensures op at c.args.switch.0
    (c.if-switch-op.true
    ∙ ap (λ (x : Op). x.switch.0)
    (get_or_from_slice_get c.args.walked.now.operations.now c.args.walked.now.number op _ at))

pub layer_at-layer-requires : goal.layer_at-layer-requires
layer_at-layer-requires c =
    let w = c.requires.walked in
    places_apart c.args.walked.now.station.now c.args.walked.now.steps.now.old_steps.items
    c.args.walked.now.steps.now.old_places.items w.steps.old_at c.args.walked.now.place w.op.switch.0 c.args.switch.0
    c.index.result.now w.moved
    (listed c.args.walked.now.steps.now.old_places.items c.args.switch.0 c.from.result c.index.result.now
    (length c.args.walked.now.station.now.switches) c.from.ensures c.index.ensures c.requires.switch w.steps.old_at.len)
    (λ e. c.if-switch-op.false
    (e ∙ ap (λ (x : Op). x.switch.0)
    (sym (get_or_from_slice_get c.args.walked.now.operations.now c.args.walked.now.number w.op _ w.at))))

pub returns : goal.returns
returns c unset op at =
    let w = c.requires.walked in
    unmarked_never c.args.walked.now w c.is_station.ensures op at c.args.switch.0 c.index.result.now c.args.walked.now.layers.now
    (λ e. c.if-switch-op.false
    (e ∙ ap (λ (x : Op). x.switch.0)
    (sym (get_or_from_slice_get c.args.walked.now.operations.now c.args.walked.now.number op _ at))))
    (listed c.args.walked.now.steps.now.old_places.items c.args.switch.0 c.from.result c.index.result.now
    (length c.args.walked.now.station.now.switches) c.from.ensures c.index.ensures c.requires.switch w.steps.old_at.len)
    (subst (λ (o : Op). AreTurnedLayers c.args.walked.now.walk.now.graph c.args.walked.now.walk.now.codes.items o.direction
    c.args.walked.now.layers.now) (same_op c.args.walked.now.operations.now c.args.walked.now.number w.op op w.at at) w.turned)
    (λ set.
    let e : false ≡ true =
    sym unset
    ∙ c.is_marked.ensures.1 (subst (λ (n : ℕ). IsSet c.args.walked.now.layers.now n) (sym c.layer_at-layer.ensures) set) in
    cc e)

pub bounds-walked-walked : goal.bounds-walked-walked
bounds-walked-walked c =
    let w = c.requires.walked in
    slice_get_within c.args.walked.now.operations.now c.args.walked.now.number w.op w.at

pub index-requires : goal.index-requires
index-requires c =
    place_within _ _ _ _ _ c.from.ensures c.requires.switch c.requires.walked.steps.old_at.len
    c.args.walked.now.steps.now.old_places.ok.0
