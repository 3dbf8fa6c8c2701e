use Rattle.std.proofs.Common.{refl, ap, arith, length}
use Rattle.bay_protocol.specs.State.{State, nothing_kept, resumed}
use Rattle.node_session.proofs.Ending.{want, long}
use Rattle.node_session.proofs.Next.{stands_first, last_long, last_done, last_read_fault, last_want, held_none}
use Rattle.node_session.proofs.Next.{held_some}
use Rattle.node_session.proofs.session.run.Goals as goal

pub returns-in_default : goal.returns-in_default
returns-in_default g c =
    want _ _ _ _ _ _ _ _ (stands_first _ _ _ _ _ (resumed c.args.station.now c.args.bay.0 nothing_kept) refl refl)

pub loop-count-init : goal.loop-count-init
loop-count-init g c = record {
  stands = record {
    served = stands_first _ _ _ _ _ c.in-Ok.node c.new-reader.ensures c.in-Ok.ensures.value;
    asked = λ some. absurd (omega (arith, some, ap length c.new-reader.ensures));
  };
  node = c.in-Ok.ensures.node;
  fits = λ collection is. let none = ap (λ (s : State). s.collecting) c.in-Ok.ensures.value in cc (none, is);
  bay = ap (λ (s : State). s.bay) c.in-Ok.ensures.value;
  near = omega (arith, ap length c.new-reader.ensures);
}

pub returns-in-Ok-false : goal.returns-in-Ok-false
returns-in-Ok-false g c = (rw c.in-Ok-false.field-0-test at c.in-Ok-false.ensures.goes) _ c.loop-count.invariant.stands

pub returns-then-not-is_empty : goal.returns-then-not-is_empty
returns-then-not-is_empty g c =
    long _ _ _ _ _ _ _ _ c.loop-count.invariant.stands.served (held_some c.loop-count.reader c.held.result.now
    c.is_empty.result c.held.ensures c.is_empty.ensures c.if-not-is_empty.true)
    (omega (arith, c.loop-count-test.false, c.loop-count.auto.count-end))

pub returns-in-Ok-true-more : goal.returns-in-Ok-true-more
returns-in-Ok-true-more g c =
    last_long _ _ _ _ _ _ _ _ c.loop-count.invariant.stands.served _
    (record { out = refl; reads = c.in-Ok-true-more.ensures.grows; writes = omega arith }) c.more.new.self
    (rw c.in-Ok-true-more.field-0-test at c.in-Ok-true-more.ensures.ok)
    (omega (arith, c.loop-count-test.false, c.loop-count.auto.count-end))

pub returns-in-Ok-false-more : goal.returns-in-Ok-false-more
returns-in-Ok-false-more g c =
    last_done _ _ _ _ _ _ _ _ c.loop-count.invariant.stands.served _
    (record { out = refl; reads = c.in-Ok-false-more.ensures.grows; writes = omega arith }) c.more.new.self
    (rw c.in-Ok-false-more.field-0-test at c.in-Ok-false-more.ensures.ok) (held_none c.loop-count.reader
    c.held.result.now c.is_empty.result c.held.ensures c.is_empty.ensures c.if-not-is_empty.false)
    (omega (arith, c.loop-count-test.false, c.loop-count.auto.count-end))

pub returns-in-Err-Failed : goal.returns-in-Err-Failed
returns-in-Err-Failed g c =
    last_read_fault _ _ _ _ _ _ _ _ c.loop-count.invariant.stands.served _
    (record { out = refl; reads = c.in-Err-Failed.ensures.grows; writes = omega arith }) c.more.new.self
    (rw c.in-Err-Failed.field-0-is at c.in-Err-Failed.ensures.err) (held_none c.loop-count.reader c.held.result.now
    c.is_empty.result c.held.ensures c.is_empty.ensures c.if-not-is_empty.false)

pub returns : goal.returns
returns g c =
    last_want _ _ _ _ _ _ _ _ c.loop-count.invariant.stands.served _
    (record { out = refl; reads = c.in-Err-Memory.ensures.grows; writes = omega arith }) c.more.new.self
    (rw c.in-Err-Memory.field-0-is at c.in-Err-Memory.ensures.err)

pub loop-count-preserved : goal.loop-count-preserved
loop-count-preserved g c = record {
  stands = (rw c.in-Ok-true.field-0-test at c.in-Ok-true.ensures.goes) _ c.loop-count.invariant.stands;
  node = c.in-Ok-true.ensures.node;
  fits = c.in-Ok-true.ensures.fits;
  bay = c.in-Ok-true.ensures.bay;
  near = c.in-Ok-true.ensures.near c.in-Ok-true.field-0-test;
}
