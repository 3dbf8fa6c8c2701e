use Rattle.std.proofs.Common.{arith}
use Rattle.std.proofs.lemmas.Option.{slice_get_within}
use Rattle.judge_intake.proofs.OtherLemmas.{element}
use Rattle.station_compare.proofs.LoneLemmas.{lone_switch}
use Rattle.station_compare.proofs.switch.switch_changes.Goals as goal

pub moved_switch-requires-clause-some : goal.moved_switch-requires-clause-some
moved_switch-requires-clause-some c =
    let i = c.args.id.0 in
    let ss = c.args.steps.now.old_steps.items in
    let lt = slice_get_within c.args.old.now.switches i c.requires.same.old c.requires.same.old_at in
    let (p, at) =
    element c.args.steps.now.old_places.items i (omega (arith, lt, c.requires.steps.old_at.len)) in
    let t = c.requires.steps.old_at.each i p at in
    omega (arith, slice_get_within ss p t.step t.at, c.len.ensures, c.if-len-eq1.false)

pub returns-then-len-eq1-clause-narrow : goal.returns-then-len-eq1-clause-narrow
returns-then-len-eq1-clause-narrow c b i walk =
    absurd (omega (arith, walk.others, c.len.ensures, c.if-len-eq1.true))

pub returns-then-len-eq1-clause-changes : goal.returns-then-len-eq1-clause-changes
returns-then-len-eq1-clause-changes c =
    lone_switch c.args.old.now c.args.new.now c.args.steps.now.old_steps.items c.args.steps.now.new_steps.items
    c.requires.steps.steps (omega (arith, c.len.ensures, c.if-len-eq1.true)) c.args.id c.args.new_id.0 c.requires.same
    c.unchanged_switch.result c.unchanged_switch.ensures.old c.unchanged_switch.ensures.opening
    c.unchanged_switch.ensures.closing
