use Rattle.std.proofs.Common.{inr}
use Rattle.node_session.specs.SessionEnds.{streams}
use Rattle.interlock_cli.proofs.Storing.{stops_unasked}
use Rattle.interlock_cli.proofs.stored_command.stored.Goals as goal

pub returns-in-Ok-clause-ends : goal.returns-in-Ok-clause-ends
returns-in-Ok-clause-ends g c = inr c.in-Ok.ensures.ok

pub returns-in-Err-clause-ends : goal.returns-in-Err-clause-ends
returns-in-Err-clause-ends g c =
    let new = c.serve_named.new in
    let ensures = c.in-Err.ensures in
    stops_unasked _ (record { station = c.args.station.now; bay = c.args.bay.now }) (g.F.Shelf.held c.args.shelf.now)
    (g.F.Shelf.faults c.args.shelf.now) (g.F.Shelf.faults new.shelf) c.args.device.now new.device c.args.input.now
    new.input c.args.out.now new.out
    (λ i o. streams (g.I.Source.left i) (g.I.Source.left_before i) (g.I.Source.faults i) (g.O.Sink.took o)
    (g.O.Sink.faults o)) c.in-Err.end ensures.err ensures.unasked ensures.unwritten ensures.untouched
