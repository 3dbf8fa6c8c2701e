use Rattle.std.proofs.Common.{inl, inr}
use Rattle.interlock_cli.specs.Form.{File}
use Rattle.interlock_cli.specs.Formats.{OrderOf}
use Rattle.interlock_cli.proofs.Asked.{reads_begun, reads_on}
use Rattle.interlock_cli.proofs.Later.{fails_later}
use Rattle.interlock_cli.proofs.Passing.{passed}
use Rattle.interlock_cli.proofs.order_command.OrderAnswer.answer.Goals as goal

pub returns-in_err-start-clause-reads : goal.returns-in_err-start-clause-reads
returns-in_err-start-clause-reads g c = reads_begun c.in_err-start.ensures.reads

pub returns-in_err-steps-clause-err : goal.returns-in_err-steps-clause-err
returns-in_err-steps-clause-err g c =
    let start = c.in_ok-start in
    let end = c.in_err-steps.field-0.0 in
    let answer = c.from_residual-in_err-steps in
    passed _ end answer.result answer.ensures.1
    (inr (
      start.start,
      start.ensures.ok,
      inl (fails_later start.ensures.onward (g.F.Shelf.faults c.load-2.new.shelf) (File c.args.self.now.order.now)
          (OrderOf c.args.station.now) end c.in_err-steps.ensures.err),
    ))

pub returns-in_err-steps-clause-reads : goal.returns-in_err-steps-clause-reads
returns-in_err-steps-clause-reads g c = reads_on c.in_ok-start.ensures.read c.in_err-steps.ensures.reads

pub returns-in_err-report-clause-reads : goal.returns-in_err-report-clause-reads
returns-in_err-report-clause-reads g c = reads_on c.in_ok-start.ensures.read c.in_ok-steps.ensures.reads

pub returns-clause-reads : goal.returns-clause-reads
returns-clause-reads g c = reads_on c.in_ok-start.ensures.read c.in_ok-steps.ensures.reads
