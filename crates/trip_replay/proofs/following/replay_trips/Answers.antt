use Rattle.std.proofs.Common.{ap, map, ◌∙◌, length}
use Rattle.log_replay.specs.Replay.{shown_at}
use Rattle.log_replay.proofs.OneReport.{empty_whole}
use Rattle.trip_replay.proofs.TripReplaying.{trip_headline_if, empty_trip_headline, trip_whole_if}
use Rattle.trip_replay.proofs.following.replay_trips.Goals as goal

pub returns-in-Some-clause-headline : goal.returns-in-Some-clause-headline
returns-in-Some-clause-headline g c =
    trip_headline_if
    (g.J.Judge.meaning c.args.judge.now) c.args.station.now c.args.log.now c.replay_from.result c.requires.same
    c.diagram_is_station.ensures (g.met.J.Judge.lawful c.args.judge.now) c.replay_from.ensures.replay

pub returns-in-None-clause-headline : goal.returns-in-None-clause-headline
returns-in-None-clause-headline g c = empty_trip_headline c.args.station.now c.args.log.now c.new-in-None.result.out
    (c.new-in-None.ensures.out ∙ ap (map shown_at) c.new.ensures.items)

pub returns-in-Some-clause-whole : goal.returns-in-Some-clause-whole
returns-in-Some-clause-whole g c =
    trip_whole_if (g.J.Judge.meaning c.args.judge.now) c.args.station.now c.args.log.now c.replay_from.result
    c.replay_from.ensures.replay c.replay_from.ensures.showable c.replay_from.ensures.count c.count-count.ensures.few

pub returns-in-None-clause-whole : goal.returns-in-None-clause-whole
returns-in-None-clause-whole g c =
    empty_whole c.args.station.now (length c.args.log.now) _ c.new-in-None.result
    (c.new-in-None.ensures.out ∙ ap (map shown_at) c.new.ensures.items) c.new-in-None.ensures.broken
    (c.new-in-None.ensures.count ∙ c.count-count.ensures.count) c.count-count.ensures.few
