use Rattle.interlock_cli.proofs.Asked.{on_ok}
use Rattle.interlock_cli.proofs.Cuts.{given, failed}
use Rattle.interlock_cli.proofs.content.load.Goals as goal

pub returns-clause-ok : goal.returns-clause-ok
returns-clause-ok g c =
    let d = c.args.station.now in
    given (g.T.Content.format d) (g.met.T.Content.of_file d) (g.T.Content.accepted d) (g.F.Shelf.held c.args.shelf.now)
    c.args.name.now c.in_ok-bytes.bytes.items c.judge.result c.in_ok-bytes.ensures.ok
    (rw c.deref.ensures.value at c.judge.ensures.ok)

pub returns-clause-err : goal.returns-clause-err
returns-clause-err g c =
    let d = c.args.station.now in
    failed (g.T.Content.format d) (g.met.T.Content.of_file d) (g.F.Shelf.held c.args.shelf.now)
    (g.F.Shelf.faults c.args.shelf.now) (g.F.Shelf.faults c.read_file.new.shelf) c.args.name.now
    c.in_ok-bytes.bytes.items c.judge.result c.in_ok-bytes.ensures.ok
    (rw c.deref.ensures.value at c.judge.ensures.err)

pub returns-clause-read : goal.returns-clause-read
returns-clause-read g c = on_ok c.judge.result c.in_ok-bytes.ensures.read
