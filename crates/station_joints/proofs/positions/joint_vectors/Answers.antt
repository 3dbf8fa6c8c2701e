use Rattle.std.proofs.Common.{ℕ, List, map, slice_get, sym, ap, ◌∙◌}
use Rattle.station_joints.specs.Chosen.{closed_at}
use Rattle.station_joints.proofs.ClosedLemmas.{places_within, vectors_joint, vectors_given, vectors_isolated}
use Rattle.station_joints.proofs.positions.joint_vectors.Goals as goal

pub positions-requires-clause-places : goal.positions-requires-clause-places
positions-requires-clause-places c i p at =
    places_within c.args.old.now c.args.steps.now.old_steps.items c.args.steps.now.old_places.items c.args.choices.now
    c.requires.steps.old_at c.requires.count i p
    (ap (λ (l : List ℕ). slice_get l i) (sym c.deref.ensures.value) ∙ at)

pub positions-requires-2-clause-places : goal.positions-requires-2-clause-places
positions-requires-2-clause-places c i p at =
    places_within c.args.new.now c.args.steps.now.new_steps.items c.args.steps.now.new_places.items c.args.choices.now
    c.requires.steps.new_at (c.requires.count ∙ c.requires.steps.steps.len) i p
    (ap (λ (l : List ℕ). slice_get l i) (sym c.deref-2.ensures.value) ∙ at)

pub returns-clause-joint : goal.returns-clause-joint
returns-clause-joint c =
    vectors_joint c.args.old.now c.args.new.now c.args.steps.now.old_steps.items c.args.steps.now.new_steps.items
    c.requires.steps.steps c.is_station-2.ensures c.args.steps.now.old_places.items c.args.steps.now.new_places.items
    c.requires.steps.old_at c.requires.steps.new_at c.args.moved c.args.choices.now c.in_ok-old_closed.old_closed.items
    c.in_ok-new_closed.new_closed.items (c.in_ok-old_closed.ensures ∙ ap (map (closed_at c.args.moved c.args.choices.now)) c.deref.ensures.value)
    (c.in_ok-new_closed.ensures ∙ ap (map (closed_at c.args.moved c.args.choices.now)) c.deref-2.ensures.value)

pub returns-clause-given : goal.returns-clause-given
returns-clause-given c =
    vectors_given c.args.old.now c.args.new.now c.args.steps.now.old_steps.items c.args.steps.now.new_steps.items
    c.requires.steps.steps c.is_station-2.ensures c.args.steps.now.old_places.items c.args.steps.now.new_places.items
    c.requires.steps.old_at c.requires.steps.new_at c.args.moved c.args.choices.now c.in_ok-old_closed.old_closed.items
    c.in_ok-new_closed.new_closed.items (c.in_ok-old_closed.ensures ∙ ap (map (closed_at c.args.moved c.args.choices.now)) c.deref.ensures.value)
    (c.in_ok-new_closed.ensures ∙ ap (map (closed_at c.args.moved c.args.choices.now)) c.deref-2.ensures.value)
    c.requires.count c.requires.small

pub returns-clause-isolated : goal.returns-clause-isolated
returns-clause-isolated c =
    vectors_isolated c.args.old.now c.args.new.now c.args.steps.now.old_steps.items c.args.steps.now.new_steps.items
    c.requires.steps.steps c.is_station-2.ensures c.args.steps.now.old_places.items c.args.steps.now.new_places.items
    c.requires.steps.old_at c.requires.steps.new_at c.args.moved c.args.choices.now c.in_ok-old_closed.old_closed.items
    c.in_ok-new_closed.new_closed.items (c.in_ok-old_closed.ensures ∙ ap (map (closed_at c.args.moved c.args.choices.now)) c.deref.ensures.value)
    (c.in_ok-new_closed.ensures ∙ ap (map (closed_at c.args.moved c.args.choices.now)) c.deref-2.ensures.value)
    c.requires.count c.requires.moved
