use Rattle.interlock_cli.specs.Formats.{Drawing}
use Rattle.interlock_cli.proofs.Asked.{on_ok}
use Rattle.interlock_cli.proofs.Cuts.{failed}
use Rattle.interlock_cli.proofs.Drawings.{drawn}
use Rattle.interlock_cli.proofs.loading.load_drawing.Goals as goal

pub returns-clause-ok : goal.returns-clause-ok
returns-clause-ok g c =
    drawn (g.F.Shelf.held c.args.shelf.now) c.args.name.now c.in_ok-bytes.bytes.items c.judge_drawing.result
    c.in_ok-bytes.ensures.ok (rw c.deref.ensures.value at c.judge_drawing.ensures.ok)

pub returns-clause-err : goal.returns-clause-err
returns-clause-err g c =
    failed Drawing tt (g.F.Shelf.held c.args.shelf.now) (g.F.Shelf.faults c.args.shelf.now)
    (g.F.Shelf.faults c.read_file.new.shelf) c.args.name.now c.in_ok-bytes.bytes.items c.judge_drawing.result
    c.in_ok-bytes.ensures.ok
    (rw c.deref.ensures.value at c.judge_drawing.ensures.err)

pub returns-clause-read : goal.returns-clause-read
returns-clause-read g c = on_ok c.judge_drawing.result c.in_ok-bytes.ensures.read
