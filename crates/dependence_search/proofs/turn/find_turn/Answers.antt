use Rattle.std.proofs.Common.{◌≡◌, ◌<◌, ℕ, List, Some, length, slice_get, subst, sym, ap, ◌∙◌, suc, arith}
use Rattle.std.proofs.lemmas.Option.{slice_get_within}
use Rattle.graph_walks.specs.Walks.{AreTwos, HasTwos}
use Rattle.step_graphs.specs.Moved.{AreGiven}
use Rattle.station_joints.specs.Chosen.{layer_of}
use Rattle.dependence_search.specs.Released.{TurnsLabel}
use Rattle.dependence_search.proofs.DependLemmas.{moved_alone, turn_shown, no_turn, listed, places_apart}
use Rattle.dependence_search.proofs.DependLemmas.{taken_there, layer_small}
use Rattle.dependence_search.proofs.ReleasedLemmas.{label_turns, turning_of}
use Rattle.dependence_search.proofs.turn.find_turn.Goals as goal

pub returns-then-switch-op : goal.returns-then-switch-op
returns-then-switch-op c dep =
    let r = c.requires.released in
    moved_alone c.args.station.now c.is_station.ensures c.args.steps.now.old_steps.items
    c.args.steps.now.new_steps.items c.requires.steps.steps c.args.place c.args.op r.walk r.codes r.is_walk
    c.requires.moved (rw c.if-switch-op.true at dep)

pub layer_at-layer-requires : goal.layer_at-layer-requires
layer_at-layer-requires c =
    places_apart c.args.station.now c.args.steps.now.old_steps.items c.args.steps.now.old_places.items
    c.requires.steps.old_at c.args.place c.args.op.switch.0 c.args.switch.0 c.index.result.now c.requires.moved
    (listed c.args.steps.now.old_places.items c.args.switch.0 c.from.result c.index.result.now
    (length c.args.station.now.switches) c.from.ensures c.index.ensures c.requires.switch
    c.requires.steps.old_at.len) c.if-switch-op.false

pub turning_choices-requires-clause-twos : goal.turning_choices-requires-clause-twos
turning_choices-requires-clause-twos c =
    let has = c.requires.released.released.choices in
    subst (λ (k : ℕ). HasTwos k c.args.released.now) (sym has.count) has

pub turning_choices-requires-clause-reduced : goal.turning_choices-requires-clause-reduced
turning_choices-requires-clause-reduced c = c.requires.released.released.reduced

pub turning_choices-requires-clause-layer : goal.turning_choices-requires-clause-layer
turning_choices-requires-clause-layer c =
    let w = c.requires.released.is_walk in
    let small : layer_of c.args.place c.index.result.now < w.others =
    layer_small c.args.station.now c.args.steps.now.old_steps.items c.args.steps.now.old_places.items
    c.requires.steps.old_at c.args.place c.args.op.switch.0 c.args.switch.0 c.index.result.now c.requires.moved
    (listed c.args.steps.now.old_places.items c.args.switch.0 c.from.result c.index.result.now
    (length c.args.station.now.switches) c.from.ensures c.index.ensures c.requires.switch
    c.requires.steps.old_at.len) c.if-switch-op.false w.others w.count in
    omega (arith, small, w.walked.count, c.requires.released.released.choices.count, c.layer_at-layer.ensures)

pub position_of-requires-clause-moved : goal.position_of-requires-clause-moved
position_of-requires-clause-moved c =
    slice_get_within c.args.steps.now.old_steps.items c.args.place c.requires.moved.step c.requires.moved.at

pub position_of-requires-clause-count : goal.position_of-requires-clause-count
position_of-requires-clause-count c =
    let found = rw c.in-Some.is at c.in_ok-choices.ensures in
    let w = c.requires.released.is_walk in
    omega (
      arith,
      ap length c.deref.ensures.value,
      found.0.len,
      c.requires.released.released.choices.count,
      w.walked.count,
      w.count,
    )

pub position_of-requires-clause-small : goal.position_of-requires-clause-small
position_of-requires-clause-small c j x at =
    let found = rw c.in-Some.is at c.in_ok-choices.ensures in
    found.0.small j x (ap (λ (l : List ℕ). slice_get l j) (sym c.deref.ensures.value) ∙ at)

pub returns-in_ok-position_of-in-Some : goal.returns-in_ok-position_of-in-Some
returns-in_ok-position_of-in-Some c =
    let found = rw c.in-Some.is at c.in_ok-choices.ensures in
    let shown = c.in_ok-position_of-in-Some.ensures in
    let r = c.requires.released in
    let w = r.is_walk in
    let at =
    listed c.args.steps.now.old_places.items c.args.switch.0 c.from.result c.index.result.now
    (length c.args.station.now.switches) c.from.ensures c.index.ensures c.requires.switch
    c.requires.steps.old_at.len in
    let small : layer_of c.args.place c.index.result.now < w.others =
    layer_small c.args.station.now c.args.steps.now.old_steps.items c.args.steps.now.old_places.items
    c.requires.steps.old_at c.args.place c.args.op.switch.0 c.args.switch.0 c.index.result.now c.requires.moved at
    c.if-switch-op.false w.others w.count in
    let n : length c.args.released.now.layers ≡ w.others = r.released.choices.count ∙ w.walked.count in
    let given = subst (λ (l : List ℕ). AreGiven c.args.steps.now.old_steps.items c.args.place
    c.in_ok-position_of-in-Some.field-0.items l) c.deref.ensures.value shown.given in
    turn_shown c.args.station.now c.is_station.ensures c.args.steps.now.old_steps.items
    c.args.steps.now.new_steps.items c.requires.steps.steps c.args.place c.args.op r.walk r.codes w c.args.switch.0
    (layer_of c.args.place c.index.result.now)
    (taken_there c.args.station.now c.args.steps.now.old_steps.items c.args.steps.now.old_places.items
    c.requires.steps.old_at c.args.place c.args.op.switch.0 c.args.switch.0 c.index.result.now c.requires.moved at
    c.if-switch-op.false) c.in_ok-position_of-in-Some.field-0.items c.in-Some.choices.items c.requires.switch shown.vector
    given
    (turning_of c.args.station.now c.args.steps.now.old_steps.items c.args.place c.args.op.switch.0 r.walk r.codes w
    c.args.op.direction c.args.released.now r.released (layer_of c.args.place c.index.result.now) small
    c.in-Some.choices.items (subst (λ (k : ℕ). AreTwos k c.in-Some.choices.items) n found.0)
    (subst (λ (l : ℕ). TurnsLabel c.args.released.now l c.in-Some.choices.items) c.layer_at-layer.ensures found.1))

pub returns-in-None : goal.returns-in-None
returns-in-None c dep =
    let none = rw c.in-None.is at c.in_ok-choices.ensures in
    let r = c.requires.released in
    let w = r.is_walk in
    let at =
    listed c.args.steps.now.old_places.items c.args.switch.0 c.from.result c.index.result.now
    (length c.args.station.now.switches) c.from.ensures c.index.ensures c.requires.switch
    c.requires.steps.old_at.len in
    let small : layer_of c.args.place c.index.result.now < w.others =
    layer_small c.args.station.now c.args.steps.now.old_steps.items c.args.steps.now.old_places.items
    c.requires.steps.old_at c.args.place c.args.op.switch.0 c.args.switch.0 c.index.result.now c.requires.moved at
    c.if-switch-op.false w.others w.count in
    let n : w.others ≡ length c.args.released.now.layers = sym (r.released.choices.count ∙ w.walked.count) in
    no_turn c.args.station.now c.is_station.ensures c.args.steps.now.old_steps.items
    c.args.steps.now.new_steps.items c.requires.steps.steps c.args.place c.args.op r.walk r.codes w c.args.switch.0
    (layer_of c.args.place c.index.result.now)
    (taken_there c.args.station.now c.args.steps.now.old_steps.items c.args.steps.now.old_places.items
    c.requires.steps.old_at c.args.place c.args.op.switch.0 c.args.switch.0 c.index.result.now c.requires.moved at
    c.if-switch-op.false)
    (slice_get_within c.args.steps.now.old_steps.items c.args.place c.requires.moved.step c.requires.moved.at)
    (λ cs two turning. none cs (subst (λ (k : ℕ). AreTwos k cs) n two)
    (subst (λ (l : ℕ). TurnsLabel c.args.released.now l cs) (sym c.layer_at-layer.ensures)
    (label_turns r.walk r.codes c.args.op.direction c.args.released.now r.released
    (layer_of c.args.place c.index.result.now) cs (omega (arith, small, w.walked.count))
    (subst (λ (k : ℕ). AreTwos k cs) (sym w.walked.count) two) turning))) dep
