use Rattle.std.proofs.Common.{◌∙◌, inl, Ok}
use Rattle.ssd_read.specs.StandsFor.{Stands}
use Rattle.station_make.specs.DrawingText.{station_text}
use Rattle.station_make.specs.EventsText.{events_text}
use Rattle.station_make.specs.PositionsText.{positions_text}
use Rattle.interlock_cli.specs.Formats.{Drawing}
use Rattle.interlock_cli.proofs.DrawnPaths.{paths_are_lines}
use Rattle.interlock_cli.proofs.Later.{word_fails}
use Rattle.interlock_cli.proofs.Passing.{passed}
use Rattle.interlock_cli.proofs.Resting.{made_gives, made_stops}
use Rattle.interlock_cli.proofs.work_command.work.Goals as goal

pub returns-in_err-station-clause-err : goal.returns-in_err-station-clause-err
returns-in_err-station-clause-err g c =
    let end = c.in_err-station.field-0.0 in
    let answer = c.from_residual-in_err-station in
    passed _ end answer.result answer.ensures.1
    (inl (word_fails (g.F.Shelf.held c.args.shelf.now) (g.F.Shelf.faults c.args.shelf.now)
    (g.F.Shelf.faults c.args.shelf.now) Drawing (station_text c.args.feeders.number) end
    (rw (c.bytes.ensures, c.in_ok-made.ensures.station) at c.in_err-station.ensures.err)))

pub answer_station-requires : goal.answer_station-requires
answer_station-requires g c =
    paths_are_lines c.bytes.result.now c.in_ok-station.station c.in_ok-station.ensures.ok

pub returns-clause-ok : goal.returns-clause-ok
returns-clause-ok g c =
    let n = c.args.feeders.number in
    let made = c.in_ok-made.ensures in
    let d = c.in_ok-station.station in
    let stands : Stands (station_text n) (Ok d) = rw (c.bytes.ensures, made.station) at c.in_ok-station.ensures.ok in
    made_gives (g.F.Shelf.held c.args.shelf.now) d (station_text n) (positions_text n) (events_text n)
    c.bytes-2.result.now c.bytes-3.result.now stands (c.bytes-2.ensures ∙ made.positions)
    (c.bytes-3.ensures ∙ made.events)
    c.answer_station.result c.answer_station.ensures.ok

pub returns-clause-err : goal.returns-clause-err
returns-clause-err g c =
    let n = c.args.feeders.number in
    let made = c.in_ok-made.ensures in
    let d = c.in_ok-station.station in
    let stands : Stands (station_text n) (Ok d) = rw (c.bytes.ensures, made.station) at c.in_ok-station.ensures.ok in
    made_stops (g.F.Shelf.held c.args.shelf.now) d (station_text n) (positions_text n) (events_text n)
    c.bytes-2.result.now c.bytes-3.result.now stands (c.bytes-2.ensures ∙ made.positions)
    (c.bytes-3.ensures ∙ made.events)
    (g.F.Shelf.faults c.args.shelf.now) (g.F.Shelf.faults c.answer_station.new.shelf) c.answer_station.result
    c.answer_station.ensures.err
