use Rattle.station_graph.specs.Diagram.{empty}
use Rattle.interlock_cli.proofs.Asked.{reads_none}
use Rattle.interlock_cli.proofs.top.output_of.Goals as goal

pub unreachable-requires : goal.unreachable-requires
unreachable-requires g c = c.requires (rw c.in-Node.is (empty, (0, tt)))

pub returns-in-Check-clause-err : goal.returns-in-Check-clause-err
returns-in-Check-clause-err g c = rw c.in-Check.is c.answer_drawing.ensures.err

pub returns-in-Explain-clause-err : goal.returns-in-Explain-clause-err
returns-in-Explain-clause-err g c = rw c.in-Explain.is c.answer_drawing-in-Explain.ensures.err

pub returns-in-Denials-clause-err : goal.returns-in-Denials-clause-err
returns-in-Denials-clause-err g c = rw c.in-Denials.is c.answer_drawing-in-Denials.ensures.err

pub returns-in-State-clause-err : goal.returns-in-State-clause-err
returns-in-State-clause-err g c = rw c.in-State.is c.answer_drawing-in-State.ensures.err

pub returns-in-Order-clause-err : goal.returns-in-Order-clause-err
returns-in-Order-clause-err g c = rw c.in-Order.is c.answer_drawing-in-Order.ensures.err

pub returns-in-Audit-clause-err : goal.returns-in-Audit-clause-err
returns-in-Audit-clause-err g c = rw c.in-Audit.is c.answer_drawing-in-Audit.ensures.err

pub returns-in-Trips-clause-err : goal.returns-in-Trips-clause-err
returns-in-Trips-clause-err g c = rw c.in-Trips.is c.answer_drawing-in-Trips.ensures.err

pub returns-in-Replay-clause-err : goal.returns-in-Replay-clause-err
returns-in-Replay-clause-err g c = rw c.in-Replay.is c.answer_drawing-in-Replay.ensures.err

pub returns-in-Make-clause-err : goal.returns-in-Make-clause-err
returns-in-Make-clause-err g c = rw c.in-Make.is c.make.ensures.err

pub returns-in-Make-clause-reads : goal.returns-in-Make-clause-reads
returns-in-Make-clause-reads g c = reads_none _ _

pub returns-in-Compare-clause-err : goal.returns-in-Compare-clause-err
returns-in-Compare-clause-err g c = rw c.in-Compare.is c.answer_drawing-in-Compare.ensures.err

pub returns-in-Tests-clause-err : goal.returns-in-Tests-clause-err
returns-in-Tests-clause-err g c = rw c.in-Tests.is c.answer_drawing-in-Tests.ensures.err

pub returns-in-Why-clause-err : goal.returns-in-Why-clause-err
returns-in-Why-clause-err g c = rw c.in-Why.is c.answer_drawing-in-Why.ensures.err

pub returns-in-BayProgram-clause-err : goal.returns-in-BayProgram-clause-err
returns-in-BayProgram-clause-err g c = rw c.in-BayProgram.is c.answer_drawing-in-BayProgram.ensures.err
