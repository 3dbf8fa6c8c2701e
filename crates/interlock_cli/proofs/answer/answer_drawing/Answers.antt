use Rattle.interlock_cli.specs.Form.{File}
use Rattle.interlock_cli.proofs.Asked.{reads_begun, reads_on}
use Rattle.interlock_cli.proofs.DrawnPaths.{paths_are_lines}
use Rattle.interlock_cli.proofs.Resting.{rest_gives, rest_stops}
use Rattle.interlock_cli.proofs.answer.answer_drawing.Goals as goal

pub returns-in_err-station-clause-reads : goal.returns-in_err-station-clause-reads
returns-in_err-station-clause-reads g c = reads_begun c.in_err-station.ensures.reads

pub answer_station-requires : goal.answer_station-requires
answer_station-requires g c =
    let drawn = c.in_ok-station.ensures.ok in paths_are_lines drawn.0 c.in_ok-station.station drawn.2

pub returns-clause-ok : goal.returns-clause-ok
returns-clause-ok g c =
    let first = c.in_ok-station.ensures in
    rest_gives first.onward (File c.args.name.now) c.in_ok-station.station first.ok
    (g.A.Answer.rest c.args.command.now) c.answer_station.result c.answer_station.ensures.ok

pub returns-clause-err : goal.returns-clause-err
returns-clause-err g c =
    let first = c.in_ok-station.ensures in
    rest_stops first.onward (File c.args.name.now) c.in_ok-station.station first.ok
    (g.A.Answer.rest c.args.command.now) (g.F.Shelf.faults c.answer_station.new.shelf) c.answer_station.result
    c.answer_station.ensures.err

pub returns-clause-reads : goal.returns-clause-reads
returns-clause-reads g c = reads_on c.in_ok-station.ensures.read c.answer_station.ensures.reads
