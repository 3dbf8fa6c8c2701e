use Rattle.std.proofs.Common.{arith, subst, sym, List, Option, ◌+◌}
use Rattle.reservation_core.specs.declared.values.WorldOutcome.{WorldOutcome}
use Rattle.log_replay.proofs.ReportLemmas.{each_at}
use Rattle.log_replay.proofs.ReplayHeadline.{fits_in}
use Rattle.trip_replay.specs.TripRecords.{TripMayBeTold}
use Rattle.trip_replay.proofs.TripReplaying.{TripReplaying, start_with, told_in, has_in}
use Rattle.trip_replay.proofs.TripReplaying.{goes_on, is_whole, is_stopped}
use Rattle.trip_replay.proofs.following.replay_in.Goals as goal

pub loop-i-init : goal.loop-i-init
loop-i-init g c =
    let m = g.J.Judge.meaning c.args.judge.now in
    subst (λ (os : List (Option WorldOutcome)). TripReplaying m c.args.log.now os c.args.world.now 0)
    (sym c.new-outcomes.ensures.items)
    (start_with m c.args.station.now c.args.log.now c.args.start.now c.args.world.now c.requires.same
    c.requires.start c.requires.new c.trip_facts_hold_at_the_start.ensures)

pub follow-requires-clause-told : goal.follow-requires-clause-told
follow-requires-clause-told g c = each_at
    (TripMayBeTold c.args.station.now) c.args.log.now c.loop-i.i c.event.result c.requires.log c.event.ensures

pub returns-in-Some-clause-replay : goal.returns-in-Some-clause-replay
returns-in-Some-clause-replay g c =
    let m = g.J.Judge.meaning c.args.judge.now in
    let d = c.args.station.now in
    let log = c.args.log.now in
    is_stopped m log c.loop-i.outcomes.items c.loop-i.world c.follow.new.world c.loop-i.i c.diagram_is_station.ensures
    (g.met.J.Judge.lawful c.args.judge.now) c.loop-i.invariant
    c.event.result c.in_ok-outcome.outcome c.in-Some.which c.new.result
    (has_in m d log c.requires.same c.requires.has) c.event.ensures
    (told_in m d log c.loop-i.i c.event.result c.requires.same c.requires.log c.event.ensures)
    c.in_ok-outcome.ensures.happens c.in-Some.ensures.some c.new.ensures.out c.new.ensures.broken

pub loop-i-preserved : goal.loop-i-preserved
loop-i-preserved g c =
    let m = g.J.Judge.meaning c.args.judge.now in
    let d = c.args.station.now in
    let log = c.args.log.now in
    let o = c.in_ok-outcome.outcome in
    subst (λ (os : List (Option WorldOutcome)). TripReplaying m log os c.follow.new.world (c.loop-i.i + 1))
    (sym c.in_ok-push.ensures.items)
    (goes_on m log c.loop-i.outcomes.items c.loop-i.world c.follow.new.world c.loop-i.i c.diagram_is_station.ensures
    (g.met.J.Judge.lawful c.args.judge.now) c.loop-i.invariant
    c.event.result o c.event.ensures (omega
    (arith, c.loop-i-test.true, c.count-i-end.ensures.count, c.count-i-end.ensures.few))
    (told_in m d log c.loop-i.i c.event.result c.requires.same c.requires.log c.event.ensures)
    c.in_ok-outcome.ensures.happens (fits_in m d o c.requires.same c.in_ok-outcome.ensures.fits)
    c.is_numbered.ensures c.in_ok-outcome.ensures.few c.in_ok-outcome.ensures.count c.in_ok-outcome.ensures.facts c.in_default.ensures.none)

pub returns-clause-replay : goal.returns-clause-replay
returns-clause-replay g c =
    let m = g.J.Judge.meaning c.args.judge.now in
    is_whole m c.args.log.now c.loop-i.outcomes.items c.loop-i.world c.loop-i.world c.loop-i.i
    c.diagram_is_station.ensures (g.met.J.Judge.lawful c.args.judge.now) c.loop-i.invariant
    c.new-2.result (has_in m c.args.station.now c.args.log.now c.requires.same c.requires.has)
    (omega (arith, c.loop-i-test.false, c.loop-i.auto.i-end, c.count-i-end.ensures.count)) c.new-2.ensures.out
    c.new-2.ensures.broken
