use Rattle.change_search.proofs.PartLemmas.{isolated_shows, none_isolated, none_at_all, other_shows}
use Rattle.change_search.proofs.PartLemmas.{isolating_twos, all_twos}
use Rattle.change_search.proofs.part.find_part.Goals as goal

pub joint_vectors-requires : goal.joint_vectors-requires
joint_vectors-requires c =
    let found = rw c.in-Some.is at c.in_ok-choices.ensures in
    let twos =
    isolating_twos c.args.old.now c.args.new.now c.args.steps.now.old_steps.items c.args.steps.now.new_steps.items
    c.args.place c.args.op.switch.0 c.args.new_op.switch.0 c.args.walk.now.graph c.args.walk.now.codes.items
    c.args.isolated.now.sets c.in-Some.choices c.requires.walk c.requires.isolating found.0 in
    record { steps = c.requires.steps; moved = c.requires.place; count = twos.0; small = twos.1 }

pub joint_vectors-requires-in-Some-2-clause-count : goal.joint_vectors-requires-in-Some-2-clause-count
joint_vectors-requires-in-Some-2-clause-count c =
    let found = rw c.in-Some-2.is at c.in_ok-choices-in-None.ensures in
    (all_twos c.args.old.now c.args.new.now c.args.steps.now.old_steps.items c.args.steps.now.new_steps.items
    c.args.place c.args.op.switch.0 c.args.new_op.switch.0 c.args.walk.now.graph c.args.walk.now.codes.items
    c.args.all.now.sets c.in-Some-2.choices c.requires.walk c.requires.allowed found.0).0

pub joint_vectors-requires-in-Some-2-clause-small : goal.joint_vectors-requires-in-Some-2-clause-small
joint_vectors-requires-in-Some-2-clause-small c =
    let found = rw c.in-Some-2.is at c.in_ok-choices-in-None.ensures in
    (all_twos c.args.old.now c.args.new.now c.args.steps.now.old_steps.items c.args.steps.now.new_steps.items
    c.args.place c.args.op.switch.0 c.args.new_op.switch.0 c.args.walk.now.graph c.args.walk.now.codes.items
    c.args.all.now.sets c.in-Some-2.choices c.requires.walk c.requires.allowed found.0).1

pub returns-in_ok-vectors-in-Some : goal.returns-in_ok-vectors-in-Some
returns-in_ok-vectors-in-Some c =
    let found = rw c.in-Some.is at c.in_ok-choices.ensures in
    let twos =
    isolating_twos c.args.old.now c.args.new.now c.args.steps.now.old_steps.items c.args.steps.now.new_steps.items
    c.args.place c.args.op.switch.0 c.args.new_op.switch.0 c.args.walk.now.graph c.args.walk.now.codes.items
    c.args.isolated.now.sets c.in-Some.choices c.requires.walk c.requires.isolating found.0 in
    isolated_shows c.args.old.now c.args.new.now c.args.steps.now.old_steps.items c.args.steps.now.new_steps.items
    c.requires.steps.steps c.args.place c.requires.place c.args.walk.now.graph c.args.walk.now.codes.items c.args.op
    c.args.new_op c.requires.common c.requires.walk c.args.change c.args.rule
    c.in_ok-vectors-in-Some.vectors.old_closed.items c.in_ok-vectors-in-Some.vectors.new_closed.items c.in-Some.choices
    c.in_ok-vectors-in-Some.ensures.joint c.in_ok-vectors-in-Some.ensures.given
    (c.in_ok-vectors-in-Some.ensures.isolated twos.2) found.1

pub returns-in_ok-vectors-in-Some-2 : goal.returns-in_ok-vectors-in-Some-2
returns-in_ok-vectors-in-Some-2 c =
    let found = rw c.in-Some-2.is at c.in_ok-choices-in-None.ensures in
    other_shows c.args.old.now c.args.new.now c.args.steps.now.old_steps.items c.args.steps.now.new_steps.items
    c.requires.steps.steps c.args.place c.requires.place c.args.walk.now.graph c.args.walk.now.codes.items c.args.op
    c.args.new_op c.requires.common c.requires.walk c.args.change c.args.rule
    c.in_ok-vectors-in-Some-2.vectors.old_closed.items c.in_ok-vectors-in-Some-2.vectors.new_closed.items
    c.in-Some-2.choices c.in_ok-vectors-in-Some-2.ensures.joint c.in_ok-vectors-in-Some-2.ensures.given found.1
    (none_isolated c.args.old.now c.args.new.now c.args.steps.now.old_steps.items c.args.steps.now.new_steps.items
    c.requires.steps.steps c.args.place c.requires.place c.args.walk.now.graph c.args.walk.now.codes.items c.args.op
    c.args.new_op c.requires.common c.requires.walk c.args.change c.args.rule
    c.args.isolated.now.sets c.requires.isolating (rw c.in-None.is at c.in_ok-choices.ensures))

pub returns-in-None-2 : goal.returns-in-None-2
returns-in-None-2 c =
    none_at_all c.args.old.now c.args.new.now c.args.steps.now.old_steps.items c.args.steps.now.new_steps.items
    c.requires.steps.steps c.args.place c.requires.place c.args.walk.now.graph c.args.walk.now.codes.items c.args.op
    c.args.new_op c.requires.common c.requires.walk c.args.change c.args.rule
    c.args.all.now.sets c.requires.allowed (rw c.in-None-2.is at c.in_ok-choices-in-None.ensures)
