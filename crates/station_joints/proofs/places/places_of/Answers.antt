use Rattle.std.proofs.Common.{◌≡◌, length, subst, arith}
use Rattle.std.proofs.lemmas.Option.{slice_get-get_or}
use Rattle.station_joints.specs.Taking.{ArePlaced}
use Rattle.station_joints.proofs.PlaceLemmas.{step_placed, step_has_place, all_placed}
use Rattle.station_joints.proofs.places.places_of.Goals as goal

pub place_step-requires : goal.place_step-requires
place_step-requires c =
    step_has_place c.args.station.now c.args.steps.now _ c.loop-p.p c.loop-p.places.items c.requires.steps
    (slice_get-get_or c.args.steps.now c.loop-p.p _ c.loop-p-test.true) c.loop-p.invariant.long

pub loop-p-preserved : goal.loop-p-preserved
loop-p-preserved c =
    let next =
    step_placed c.args.station.now c.args.steps.now _ c.loop-p.p c.loop-p.places.items c.place_step.new.places.items
    c.requires.steps c.place_step.ensures (slice_get-get_or c.args.steps.now c.loop-p.p _ c.loop-p-test.true)
    c.loop-p.invariant.long c.loop-p.invariant.placed in
    record { long = next.0; placed = next.1 }

pub returns : goal.returns
returns c =
    let done : c.loop-p.p ≡ length c.args.steps.now = omega (arith, c.loop-p.auto.p-end, c.loop-p-test.false) in
    all_placed c.args.station.now c.args.steps.now c.requires.steps c.loop-p.places.items c.loop-p.invariant.long
    (subst (λ k. ArePlaced c.args.steps.now k c.loop-p.places.items) done c.loop-p.invariant.placed)
