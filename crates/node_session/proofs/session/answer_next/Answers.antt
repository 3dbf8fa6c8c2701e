use Rattle.std.proofs.Common.{◌≡◌, ◌∙◌, refl, ap, arith, take}
use Rattle.std.specs.Str.Lines.{strip_carriage_return}
use Rattle.node_session.specs.SessionEnds.{Streams}
use Rattle.node_session.proofs.Next.{next_read_fault, next_long, next_done, next_line, next_line_fails, next_last}
use Rattle.node_session.proofs.Next.{next_asked, next_last_fails, next_want, held_none, held_some}
use Rattle.node_session.proofs.session.answer_next.Goals as goal

pub returns-in-Err-Memory-clause-goes : goal.returns-in-Err-Memory-clause-goes
returns-in-Err-Memory-clause-goes g c = λ before at.
    next_want _ _ _ before _ _ _ _ at.served _ (record { out = refl; reads = c.fill.ensures.grows; writes = omega arith })
    c.fill.new.self (rw c.in-Err-Memory.field-0-is at c.in-Err-Memory.ensures.err)

pub returns-in-Err-Failed-clause-goes : goal.returns-in-Err-Failed-clause-goes
returns-in-Err-Failed-clause-goes g c = λ before at.
    next_read_fault _ _ _ before _ _ _ _ at.served _
    (record { out = refl; reads = c.fill.ensures.grows; writes = omega arith }) c.fill.new.self
    (rw c.in-Err-Failed.field-0-is at c.in-Err-Failed.ensures.err)

pub returns-in-Ok-TooLong-clause-goes : goal.returns-in-Ok-TooLong-clause-goes
returns-in-Ok-TooLong-clause-goes g c = λ before at. (
  c.args.count,
  refl,
  next_long _ _ _ before _ _ _ _ at.served _ (record { out = refl; reads = c.fill.ensures.grows; writes = omega arith })
      c.fill.new.self (rw c.in-Ok-TooLong.field-0-is at c.in-Ok-TooLong.ensures.ok) c.requires.few,
)

pub returns-then-is_empty-clause-goes : goal.returns-then-is_empty-clause-goes
returns-then-is_empty-clause-goes g c = λ before at.
    next_done _ _ _ before _ _ _ _ at.served _ (record { out = refl; reads = c.fill.ensures.grows; writes = omega arith })
    c.fill.new.self (rw c.in-Ok-Last.field-0-is at c.in-Ok-Last.ensures.ok)
    (held_none c.fill.new.self c.held-line.result.now c.is_empty.result c.held-line.ensures c.is_empty.ensures
    c.if-is_empty.true) c.requires.few

pub returns-in-Ok-clause-goes : goal.returns-in-Ok-clause-goes
returns-in-Ok-clause-goes g c = λ before at.
    next_last _ _ _ before _ _ _ _ at.served _ (record { out = refl; reads = c.fill.ensures.grows; writes = omega arith })
    c.fill.new.self
    _ (record { input = refl; asked = refl; reads = omega arith; writes = c.in-Ok.ensures.grows }) c.answer-in-Ok-Last.new.node
    (rw c.in-Ok-Last.field-0-is at c.in-Ok-Last.ensures.ok)
    (held_some c.fill.new.self c.held-line.result.now c.is_empty.result c.held-line.ensures c.is_empty.ensures
    c.if-is_empty.false) (rw c.held-line.ensures at c.in-Ok.ensures.ok) c.requires.few

pub returns-in-Err-answer-clause-goes : goal.returns-in-Err-answer-clause-goes
returns-in-Err-answer-clause-goes g c = λ before at.
    let mid : Streams = record {
      input = g.I.Source.left c.fill.new.input;
      asked = g.I.Source.left_before c.fill.new.input;
      reads = g.I.Source.faults c.fill.new.input;
      out = g.O.Sink.took c.args.out.now;
      writes = g.O.Sink.faults c.args.out.now;
    } in
    next_last_fails _ _ _ before _ _ _ _ at.served mid
    (record { out = refl; reads = c.fill.ensures.grows; writes = omega arith }) c.fill.new.self
    _ (record { input = refl; asked = refl; reads = omega arith; writes = c.in-Err-answer.ensures.grows }) c.in-Err-answer.end
    (next_asked _ _ _ before _ _ _ _ at.served mid
    (record { out = refl; reads = c.fill.ensures.grows; writes = omega arith }) c.fill.new.self at.asked
    c.in-Ok-Last.ensures.asked)
    (rw c.in-Ok-Last.field-0-is at c.in-Ok-Last.ensures.ok)
    (held_some c.fill.new.self c.held-line.result.now c.is_empty.result c.held-line.ensures c.is_empty.ensures
    c.if-is_empty.false) c.requires.few (rw c.held-line.ensures at c.in-Err-answer.ensures.err)

pub returns-in-Err-clause-goes : goal.returns-in-Err-clause-goes
returns-in-Err-clause-goes g c = λ before at.
    let mid : Streams = record {
      input = g.I.Source.left c.fill.new.input;
      asked = g.I.Source.left_before c.fill.new.input;
      reads = g.I.Source.faults c.fill.new.input;
      out = g.O.Sink.took c.args.out.now;
      writes = g.O.Sink.faults c.args.out.now;
    } in
    let line : c.without_return-line.result.now ≡ strip_carriage_return (take c.in-Ok-Line.len c.fill.new.self) =
    c.without_return-line.ensures
    ∙ ap strip_carriage_return (c.split_at.ensures.front ∙ ap (take c.in-Ok-Line.len) c.held.ensures) in
    next_line_fails _ _ _ before _ _ _ _ at.served mid
    (record { out = refl; reads = c.fill.ensures.grows; writes = omega arith }) c.fill.new.self
    _ (record { input = refl; asked = refl; reads = omega arith; writes = c.in-Err.ensures.grows }) c.in-Ok-Line.len c.in-Err.end
    (next_asked _ _ _ before _ _ _ _ at.served mid
    (record { out = refl; reads = c.fill.ensures.grows; writes = omega arith }) c.fill.new.self at.asked
    c.in-Ok-Line.ensures.asked)
    (rw c.in-Ok-Line.field-0-is at c.in-Ok-Line.ensures.ok) c.requires.few (rw line at c.in-Err.ensures.err)

pub returns-in_default-clause-goes : goal.returns-in_default-clause-goes
returns-in_default-clause-goes g c = λ before at.
    let mid : Streams = record {
      input = g.I.Source.left c.fill.new.input;
      asked = g.I.Source.left_before c.fill.new.input;
      reads = g.I.Source.faults c.fill.new.input;
      out = g.O.Sink.took c.args.out.now;
      writes = g.O.Sink.faults c.args.out.now;
    } in
    let line : c.without_return-line.result.now ≡ strip_carriage_return (take c.in-Ok-Line.len c.fill.new.self) =
    c.without_return-line.ensures
    ∙ ap strip_carriage_return (c.split_at.ensures.front ∙ ap (take c.in-Ok-Line.len) c.held.ensures) in
    rw c.pass.ensures
    (next_line _ _ _ before _ _ _ _ at.served mid (record { out = refl; reads = c.fill.ensures.grows; writes = omega arith })
    c.fill.new.self
    _ (record { input = refl; asked = refl; reads = omega arith; writes = c.in_default.ensures.grows }) c.in-Ok-Line.len
    c.answer.new.node
    (next_asked _ _ _ before _ _ _ _ at.served mid
    (record { out = refl; reads = c.fill.ensures.grows; writes = omega arith }) c.fill.new.self at.asked
    c.in-Ok-Line.ensures.asked)
    (rw c.in-Ok-Line.field-0-is at c.in-Ok-Line.ensures.ok) (rw line at c.in_default.ensures.ok)
    c.in_default.ensures.bay)
