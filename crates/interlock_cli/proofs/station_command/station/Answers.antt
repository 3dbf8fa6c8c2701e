use Rattle.std.proofs.Common.{List, Ok, Err, inl}
use Rattle.ssd_read.specs.Elements.{Element}
use Rattle.interlock_cli.specs.Formats.{Elements}
use Rattle.interlock_cli.proofs.Cuts.{given, failed}
use Rattle.interlock_cli.proofs.Passing.{passed}
use Rattle.interlock_cli.proofs.station_command.station.Goals as goal

pub returns-clause-ok : goal.returns-clause-ok
returns-clause-ok g c =
    let (all, accepts, says) = rw c.deref.ensures.value at c.in_ok-report.ensures.ok in (
      all,
      given Elements tt (λ (x : List Element). x) (g.F.Shelf.held c.args.shelf.now) c.args.name.now
          c.in_ok-bytes.bytes.items (Ok all) c.in_ok-bytes.ensures.ok accepts,
      (c.in_ok-report.report, says, c.outcome_of.ensures, c.whole.ensures),
    )

pub returns-in_err-report-clause-err : goal.returns-in_err-report-clause-err
returns-in_err-report-clause-err g c =
    let end = c.in_err-report.field-0.0 in
    let answer = c.from_residual-in_err-report in
    passed _ end answer.result answer.ensures.1
    (inl (failed Elements tt {V = List Element} (g.F.Shelf.held c.args.shelf.now) (g.F.Shelf.faults c.args.shelf.now)
    (g.F.Shelf.faults c.read_file.new.shelf) c.args.name.now c.in_ok-bytes.bytes.items (Err end)
    c.in_ok-bytes.ensures.ok (rw c.deref.ensures.value at c.in_err-report.ensures.err)))
