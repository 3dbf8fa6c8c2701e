use Rattle.std.proofs.Common.{◌≡◌, ◌≤◌, [], ℕ, List, length, refl, sym, ap, subst, arith}
use Rattle.ilk_base.proofs.Fronts.{rose_earlier}
use Rattle.node_session.specs.declared.end.TheConstants.{MOST_LINES}
use Rattle.node_session.specs.SessionEnds.{Streams}
use Rattle.stored_session.specs.Through.{ReadsThrough}
use Rattle.stored_session.specs.declared.end.StoredEnd.TheVariants as e
use Rattle.stored_session.proofs.Lines.{reads_none, has_held, has_last}
use Rattle.stored_session.proofs.Going.{kept_now, stands_first, stands_read}
use Rattle.stored_session.proofs.Ending.{ends_here}
use Rattle.stored_session.proofs.session.run.Goals as goal

pub loop-reached-init : goal.loop-reached-init
loop-reached-init g c = record {
  stands = record {
    done = [];
    counted = refl;
    reads = subst (λ (r : List ℕ). ReadsThrough (g.I.Source.left c.args.input.now)
        (g.I.Source.left c.args.input.now) r []) (sym c.new-reader.ensures) (reads_none _ []);
    asked = λ some. absurd (omega (arith, some, ap length c.new-reader.ensures));
    after = stands_first _ g.met.D.Device.time _ _ _ _ _ _ c.args.store c.requires.kept;
  };
  node = c.requires.node;
  fits = c.requires.fits;
  bay = c.requires.bay;
  near = omega (arith, ap length c.new-reader.ensures);
  room = omega arith;
  few = omega arith;
}

pub answer_next-next-requires-clause-kept : goal.answer_next-next-requires-clause-kept
answer_next-next-requires-clause-kept g c =
    kept_now _ g.met.D.Device.time _ _ _ _ _ _ _ _ _ _ _ c.loop-reached.invariant.stands.after

pub returns-in-Ok-End : goal.returns-in-Ok-End
returns-in-Ok-End g c =
    let at = c.loop-reached.invariant.stands in
    let comes = (rw c.in-Ok-End.field-0-is at c.in-Ok-End.ensures.goes) _ at.done at.reads in
    let mid : Streams = record {
      input = g.I.Source.left c.next_line.new.input;
      asked = g.I.Source.left_before c.next_line.new.input;
      reads =
          g.I.Source.faults c.next_line.new.input;
      out = g.O.Sink.took c.loop-reached.out;
      writes = g.O.Sink.faults c.loop-reached.out;
    } in
    let now = stands_read _ g.met.D.Device.time _ _ _ _ _ _ _ mid _ at.done _ _ at.after refl
    c.next_line.ensures.grows (omega arith) in
    let fewer : length at.done ≤ MOST_LINES = omega (arith, at.counted, c.loop-reached.invariant.few) in
    record {
      ends = ends_here _ g.met.D.Device.time _ _ _ _ _ _ _ _ at.done _ _ e.Done now (λ text wrote.
          (comes, fewer, wrote));
    }

pub returns-in-Ok-Whole : goal.returns-in-Ok-Whole
returns-in-Ok-Whole g c =
    let at = c.loop-reached.invariant.stands in
    let comes = (rw c.in-Ok-Whole.field-0-is at c.in-Ok-Whole.ensures.goes) _ at.done at.reads in
    let mid : Streams = record {
      input = g.I.Source.left c.next_line.new.input;
      asked = g.I.Source.left_before c.next_line.new.input;
      reads =
          g.I.Source.faults c.next_line.new.input;
      out = g.O.Sink.took c.loop-reached.out;
      writes = g.O.Sink.faults c.loop-reached.out;
    } in
    let now = stands_read _ g.met.D.Device.time _ _ _ _ _ _ _ mid _ at.done _ _ at.after refl
    c.next_line.ensures.grows (omega arith) in
    let all : length at.done ≡ MOST_LINES = omega
    (arith, at.counted, c.loop-reached-test.false, c.loop-reached.invariant.few) in
    record {
      ends = ends_here _ g.met.D.Device.time _ _ _ _ _ _ _ _ at.done _ _ e.Long now (λ text wrote. (
        all,
        (let (reads, holds) = comes in has_held _ at.done _ _ reads holds),
        wrote,
      ));
    }

pub returns-in-Ok-Last : goal.returns-in-Ok-Last
returns-in-Ok-Last g c =
    let at = c.loop-reached.invariant.stands in
    let comes = (rw c.in-Ok-Last.field-0-is at c.in-Ok-Last.ensures.goes) _ at.done at.reads in
    let mid : Streams = record {
      input = g.I.Source.left c.next_line.new.input;
      asked = g.I.Source.left_before c.next_line.new.input;
      reads =
          g.I.Source.faults c.next_line.new.input;
      out = g.O.Sink.took c.loop-reached.out;
      writes = g.O.Sink.faults c.loop-reached.out;
    } in
    let now = stands_read _ g.met.D.Device.time _ _ _ _ _ _ _ mid _ at.done _ _ at.after refl
    c.next_line.ensures.grows (omega arith) in
    let all : length at.done ≡ MOST_LINES = omega
    (arith, at.counted, c.loop-reached-test.false, c.loop-reached.invariant.few) in
    record {
      ends = ends_here _ g.met.D.Device.time _ _ _ _ _ _ _ _ at.done _ _ e.Long now (λ text wrote. (
        all,
        (_, has_last _ at.done _ _ comes),
        wrote,
      ));
    }

pub returns-in-Ok-TooLong : goal.returns-in-Ok-TooLong
returns-in-Ok-TooLong g c =
    let at = c.loop-reached.invariant.stands in
    let comes = (rw c.in-Ok-TooLong.field-0-is at c.in-Ok-TooLong.ensures.goes) _ at.done at.reads in
    let mid : Streams = record {
      input = g.I.Source.left c.next_line.new.input;
      asked = g.I.Source.left_before c.next_line.new.input;
      reads =
          g.I.Source.faults c.next_line.new.input;
      out = g.O.Sink.took c.loop-reached.out;
      writes = g.O.Sink.faults c.loop-reached.out;
    } in
    let now = stands_read _ g.met.D.Device.time _ _ _ _ _ _ _ mid _ at.done _ _ at.after refl
    c.next_line.ensures.grows (omega arith) in
    let all : length at.done ≡ MOST_LINES = omega
    (arith, at.counted, c.loop-reached-test.false, c.loop-reached.invariant.few) in
    record {
      ends = ends_here _ g.met.D.Device.time _ _ _ _ _ _ _ _ at.done _ _ e.Long now (λ text wrote. (
        all,
        (comes.0, comes.1),
        wrote,
      ));
    }

pub returns-in-Err-Failed : goal.returns-in-Err-Failed
returns-in-Err-Failed g c =
    let at = c.loop-reached.invariant.stands in
    let comes = (rw c.in-Err-Failed.field-0-is at c.in-Err-Failed.ensures.goes) _ at.done at.reads in
    let mid : Streams = record {
      input = g.I.Source.left c.next_line.new.input;
      asked = g.I.Source.left_before c.next_line.new.input;
      reads =
          g.I.Source.faults c.next_line.new.input;
      out = g.O.Sink.took c.loop-reached.out;
      writes = g.O.Sink.faults c.loop-reached.out;
    } in
    let now = stands_read _ g.met.D.Device.time _ _ _ _ _ _ _ mid _ at.done _ _ at.after refl
    c.next_line.ensures.grows (omega arith) in
    record {
      ends = ends_here _ g.met.D.Device.time _ _ _ _ _ _ _ _ at.done _ _ e.ReadFault now (λ text wrote.
          (rose_earlier _ _ _ at.after.reads_grow comes.0, comes.1, wrote));
    }

pub returns : goal.returns
returns g c =
    let at = c.loop-reached.invariant.stands in
    let comes = (rw c.in-Err-Memory.field-0-is at c.in-Err-Memory.ensures.goes) _ at.done at.reads in
    let mid : Streams = record {
      input = g.I.Source.left c.next_line.new.input;
      asked = g.I.Source.left_before c.next_line.new.input;
      reads =
          g.I.Source.faults c.next_line.new.input;
      out = g.O.Sink.took c.loop-reached.out;
      writes = g.O.Sink.faults c.loop-reached.out;
    } in
    let now = stands_read _ g.met.D.Device.time _ _ _ _ _ _ _ mid _ at.done _ _ at.after refl
    c.next_line.ensures.grows (omega arith) in
    record {
      ends = ends_here _ g.met.D.Device.time _ _ _ _ _ _ _ _ at.done _ _ e.Memory now (λ text wrote.
          (comes, wrote));
    }

pub returns-in-Err : goal.returns-in-Err
returns-in-Err g c = record { ends = c.in-Err.ensures.goes _ _ _ c.loop-reached.invariant.stands }

pub loop-reached-preserved : goal.loop-reached-preserved
loop-reached-preserved g c = record {
  stands = c.in-Ok.ensures.goes _ _ _ c.loop-reached.invariant.stands;
  node = c.in-Ok.ensures.node;
  fits = c.in-Ok.ensures.fits;
  bay = c.in-Ok.ensures.bay;
  near = c.in-Ok.ensures.near;
  room = omega (arith, c.loop-reached.invariant.room, c.in-Ok.ensures.sequence, c.in-Ok.ensures.more);
  few = c.in-Ok.ensures.few;
}
