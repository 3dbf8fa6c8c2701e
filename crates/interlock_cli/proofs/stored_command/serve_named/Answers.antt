use Rattle.std.proofs.Common.{inl}
use Rattle.interlock_cli.specs.Form.{File}
use Rattle.interlock_cli.specs.Ends.{called}
use Rattle.interlock_cli.proofs.Drawings.{drawn_fails}
use Rattle.interlock_cli.proofs.Passing.{passed}
use Rattle.interlock_cli.proofs.Serving.{stores_bay, stops_bay}
use Rattle.interlock_cli.proofs.stored_command.serve_named.Goals as goal

pub returns-clause-ok : goal.returns-clause-ok
returns-clause-ok g c =
    stores_bay _ (record { station = c.args.station.now; bay = c.args.bay.now })
    (called (g.F.Shelf.held c.args.shelf.now) (g.F.Shelf.faults c.args.shelf.now)
    (g.F.Shelf.faults c.load_drawing.new.shelf) _ _) _ _ c.in_ok-station.station
    c.in_ok-station.ensures.ok c.in_ok-judge.ensures.ok c.serve_bay.result c.serve_bay.ensures.ok

pub returns-clause-err : goal.returns-clause-err
returns-clause-err g c =
    stops_bay (g.F.Shelf.held c.args.shelf.now) (g.F.Shelf.faults c.args.shelf.now)
    (g.F.Shelf.faults c.load_drawing.new.shelf) c.args.station.now c.args.bay.now c.in_ok-station.station
    c.in_ok-station.ensures.ok c.in_ok-judge.ensures.ok c.serve_bay.result c.serve_bay.ensures.err

pub returns-in_err-judge-clause-err : goal.returns-in_err-judge-clause-err
returns-in_err-judge-clause-err g c =
    let end = c.in_err-judge.field-0.0 in
    let answer = c.from_residual-in_err-judge in
    passed _ end answer.result answer.ensures.1
    (inl (drawn_fails (g.F.Shelf.held c.args.shelf.now) (g.F.Shelf.faults c.args.shelf.now)
    (g.F.Shelf.faults c.load_drawing.new.shelf) (File c.args.station.now) c.in_ok-station.station end
    c.in_ok-station.ensures.ok c.in_err-judge.ensures.err))
