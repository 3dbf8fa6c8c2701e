use Rattle.std.proofs.Common.{◌∙◌, length, ap, sym, arith}
use Rattle.std.proofs.lemmas.List.{length-append}
use Rattle.node_session.proofs.Going.{appends_nothing}
use Rattle.stored_session.proofs.Answering.{puts, fails_to_put, fails_to_write, wants_more, refuses_next, stands_on}
use Rattle.stored_session.proofs.Holding.{few_past}
use Rattle.stored_session.proofs.Stepping.{never_some}
use Rattle.stored_session.proofs.held.answer_held.Goals as goal

pub returns-in_default-clause-goes : goal.returns-in_default-clause-goes
returns-in_default-clause-goes g c = λ start before from input asked reads done counted at last now.
    let p = puts _ g.met.D.Device.time _ _ _ start before from input asked reads _ _ _ c.put_changed.new.device done _ _ _ _ _
    c.step_held-batch.result _ c.changed-keep.result now at c.requires.holds last c.step_held-batch.ensures.steps c.kept-before.ensures
    c.changed-keep.ensures c.requires.kept c.put_changed.ensures.crash c.put_changed.ensures.unchanged
    c.put_changed.ensures.counted in
    fails_to_put _ g.met.D.Device.time _ _ _ start before from input asked reads _ _ _ _ done _ _ _ _ _ _ _ _ p c.in_default.ensures.some
    c.in_default.ensures.failed (appends_nothing _)

pub returns-in_default-write_all-clause-goes : goal.returns-in_default-write_all-clause-goes
returns-in_default-write_all-clause-goes g c = λ start before from input asked reads done counted at last now.
    let p = puts _ g.met.D.Device.time _ _ _ start before from input asked reads _ _ _ c.put_changed.new.device done _ _ _ _ _
    c.step_held-batch.result _ c.changed-keep.result now at c.requires.holds last c.step_held-batch.ensures.steps c.kept-before.ensures
    c.changed-keep.ensures c.requires.kept c.put_changed.ensures.crash c.put_changed.ensures.unchanged
    c.put_changed.ensures.counted in
    fails_to_write _ g.met.D.Device.time _ _ _ start before from input asked reads _ _ _ _ done _ _ _ _ _ _ _ _ p _ c.in-Ok.ensures.kept _ _
    (rw c.bytes.ensures at c.in_default-write_all.ensures.err) c.in_default-write_all.ensures.failed

pub returns-in-None-clause-goes : goal.returns-in-None-clause-goes
returns-in-None-clause-goes g c = λ start before from input asked reads done counted at last now.
    let p = puts _ g.met.D.Device.time _ _ _ start before from input asked reads _ _ _ c.put_changed.new.device done _ _ _ _ _
    c.step_held-batch.result _ c.changed-keep.result now at c.requires.holds last c.step_held-batch.ensures.steps c.kept-before.ensures
    c.changed-keep.ensures c.requires.kept c.put_changed.ensures.crash c.put_changed.ensures.unchanged
    c.put_changed.ensures.counted in
    stands_on _ g.met.D.Device.time _ _ _ start before from input asked reads _ _ _ _ done _ _ _ _ _ _ _ _ p _ c.in-Ok.ensures.kept _ _ _ _ _
    (rw c.bytes.ensures at c.in-Ok-write_all.ensures.ok) c.put_changed.ensures.grows c.write_all.ensures.grows
    (omega (arith, counted, c.step_held-batch.ensures.steps.steps.counted, length-append done c.step_held-batch.ensures.steps.steps.lines))
    (rw c.in-None.is at c.step_held-batch.ensures.steps.stop)

pub returns-in-None-clause-near : goal.returns-in-None-clause-near
returns-in-None-clause-near g c =
    let steps = c.step_held-batch.ensures.steps in
    let (same, here) = rw c.in-None.is at steps.stop in
    let few = few_past c.args.reader.now steps.steps.lines steps.past c.requires.holds steps.steps.cut
    (omega (arith, steps.steps.counted, c.step_held-batch.ensures.some c.in-None.is)) in
    omega (arith, few, ap length here)

pub returns-in-Some-Memory-clause-goes : goal.returns-in-Some-Memory-clause-goes
returns-in-Some-Memory-clause-goes g c = λ start before from input asked reads done counted at last now.
    let p = puts _ g.met.D.Device.time _ _ _ start before from input asked reads _ _ _ c.put_changed.new.device done _ _ _ _ _
    c.step_held-batch.result _ c.changed-keep.result now at c.requires.holds last c.step_held-batch.ensures.steps c.kept-before.ensures
    c.changed-keep.ensures c.requires.kept c.put_changed.ensures.crash c.put_changed.ensures.unchanged
    c.put_changed.ensures.counted in
    wants_more _ g.met.D.Device.time _ _ _ start before from input asked reads _ _ _ _ done _ _ _ _ _ _ _ _ p _ c.in-Ok.ensures.kept _ _
    (rw c.bytes.ensures at c.in-Ok-write_all.ensures.ok) c.put_changed.ensures.grows c.write_all.ensures.grows

pub returns-clause-goes : goal.returns-clause-goes
returns-clause-goes g c = λ start before from input asked reads done counted at last now.
    let p = puts _ g.met.D.Device.time _ _ _ start before from input asked reads _ _ _ c.put_changed.new.device done _ _ _ _ _
    c.step_held-batch.result _ c.changed-keep.result now at c.requires.holds last c.step_held-batch.ensures.steps c.kept-before.ensures
    c.changed-keep.ensures c.requires.kept c.put_changed.ensures.crash c.put_changed.ensures.unchanged
    c.put_changed.ensures.counted in
    refuses_next _ g.met.D.Device.time _ _ _ start before from input asked reads _ _ _ _ done _ _ _ _ _ _ _ _ p _ c.in-Ok.ensures.kept _ _ _ _ _ _
    c.in-Some-Refused.field-0
    (rw c.bytes.ensures at c.in-Ok-write_all.ensures.ok) c.put_changed.ensures.grows c.write_all.ensures.grows
    (omega (
      arith,
      counted,
      c.step_held-batch.ensures.steps.steps.counted,
      length-append done c.step_held-batch.ensures.steps.steps.lines,
    ))
    (omega (arith, c.step_held-batch.ensures.fewer (λ none. never_some _ (sym c.in-Some-Refused.is ∙ none))))
    c.in-Some-Refused.is (rw c.in-Some-Refused.is at c.in-Some-Refused.field-0-is) c.step_held-batch.ensures.steps.stop
