use Rattle.node_session.proofs.Next.{held_some}
use Rattle.stored_session.proofs.Lines.{line_comes, line_asked, long_comes, last_comes, last_asked, fails_so}
use Rattle.stored_session.proofs.read.next_line.Goals as goal

pub returns-in-Ok-Line-clause-goes : goal.returns-in-Ok-Line-clause-goes
returns-in-Ok-Line-clause-goes g c = λ before done at.
    line_comes before done _ _ _ c.fill.new.self at _ (rw c.in-Ok-Line.field-0-is at c.in-Ok-Line.ensures.ok)

pub returns-in-Ok-Line-clause-asks : goal.returns-in-Ok-Line-clause-asks
returns-in-Ok-Line-clause-asks g c = λ before done at earlier line.
    line_asked before done _ _ _ c.fill.new.self at _ _ _ earlier c.in-Ok-Line.ensures.asked
    (rw c.in-Ok-Line.field-0-is at c.in-Ok-Line.ensures.ok)

pub returns-in-Ok-TooLong-clause-goes : goal.returns-in-Ok-TooLong-clause-goes
returns-in-Ok-TooLong-clause-goes g c = λ before done at. long_comes before done _ _ _ c.fill.new.self at
    (rw c.in-Ok-TooLong.field-0-is at c.in-Ok-TooLong.ensures.ok)

pub returns-else-is_empty-clause-goes : goal.returns-else-is_empty-clause-goes
returns-else-is_empty-clause-goes g c = λ before done at.
    last_comes before done _ _ _ c.fill.new.self at (rw c.in-Ok-Last.field-0-is at c.in-Ok-Last.ensures.ok)
    (held_some c.fill.new.self c.held.result.now c.is_empty.result c.held.ensures c.is_empty.ensures
    c.if-is_empty.false)

pub returns-else-is_empty-clause-asks : goal.returns-else-is_empty-clause-asks
returns-else-is_empty-clause-asks g c = λ before done at earlier line.
    last_asked before done _ (g.I.Source.left c.fill.new.input) _ c.fill.new.self at _ _ earlier c.in-Ok-Last.ensures.asked
    (held_some c.fill.new.self c.held.result.now c.is_empty.result c.held.ensures c.is_empty.ensures
    c.if-is_empty.false)

pub returns-in-Err-clause-goes : goal.returns-in-Err-clause-goes
returns-in-Err-clause-goes g c =
    λ before done at. fails_so before done _ _ _ c.fill.new.self at _ c.in-Err.trouble c.in-Err.ensures.err
