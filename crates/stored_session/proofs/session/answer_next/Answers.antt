use Rattle.std.proofs.Common.{◌≡◌, ◌≤◌, ◌<◌, ◌+◌, ◌++◌, ◌∷◌, [], inl, inr, ⊎_elim, ℕ, List, Err, length, refl, sym}
use Rattle.std.proofs.Common.{ap, subst, arith}
use Rattle.std.proofs.lemmas.List.{length-append}
use Rattle.ilk_base.specs.Outside.{Rose}
use Rattle.ilk_base.proofs.Fronts.{rose_earlier}
use Rattle.node_session.specs.declared.end.TheConstants.{MOST_LINES}
use Rattle.node_session.specs.SessionEnds.{Streams, LastAsked}
use Rattle.stored_session.specs.Through.{IsAll}
use Rattle.stored_session.specs.declared.end.StoredEnd.TheVariants as e
use Rattle.stored_session.proofs.Lines.{holds_whole}
use Rattle.stored_session.proofs.Holding.{took_last}
use Rattle.stored_session.proofs.Along.{session_one}
use Rattle.stored_session.proofs.Going.{stands_read, stands_more}
use Rattle.stored_session.proofs.Ending.{ends_here, ends_line}
use Rattle.stored_session.proofs.session.answer_next.Goals as goal

pub returns-in-Ok-TooLong-clause-goes : goal.returns-in-Ok-TooLong-clause-goes
returns-in-Ok-TooLong-clause-goes g c = λ start before from at.
    let comes = (rw c.in-Ok-TooLong.field-0-is at c.in-Ok-TooLong.ensures.goes) before.input at.done at.reads in
    let mid : Streams = record {
      input = g.I.Source.left c.next_line.new.input;
      asked = g.I.Source.left_before c.next_line.new.input;
      reads =
          g.I.Source.faults c.next_line.new.input;
      out = g.O.Sink.took c.args.out.now;
      writes = g.O.Sink.faults c.args.out.now;
    } in
    let now = stands_read _ g.met.D.Device.time _ _ _ start before from _ mid _ at.done _ _ at.after refl
    c.next_line.ensures.grows (omega arith) in
    let number : c.args.reached.count + 1 ≡ length at.done + 1 = omega (arith, at.counted) in
    let few = c.requires.few in
    let fewer : length at.done < MOST_LINES = omega (arith, at.counted, few) in
    ends_here _ g.met.D.Device.time _ _ _ start before from _ _ at.done _ _ (e.Refused (c.args.reached.count + 1)) now
    (λ text wrote. (
      number,
      fewer,
      (
        comes.0,
        comes.1,
        (λ request. let short = request.short in let long = comes.2 in
            absurd (omega (arith, short, long))),
      ),
      wrote,
    ))

pub returns-in-Ok-End-clause-goes : goal.returns-in-Ok-End-clause-goes
returns-in-Ok-End-clause-goes g c = λ start before from at.
    let comes = (rw c.in-Ok-End.field-0-is at c.in-Ok-End.ensures.goes) before.input at.done at.reads in
    let mid : Streams = record {
      input = g.I.Source.left c.next_line.new.input;
      asked = g.I.Source.left_before c.next_line.new.input;
      reads =
          g.I.Source.faults c.next_line.new.input;
      out = g.O.Sink.took c.args.out.now;
      writes = g.O.Sink.faults c.args.out.now;
    } in
    let now = stands_read _ g.met.D.Device.time _ _ _ start before from _ mid _ at.done _ _ at.after refl
    c.next_line.ensures.grows (omega arith) in
    let few = c.requires.few in
    let fewer : length at.done ≤ MOST_LINES = omega (arith, at.counted, few) in
    ends_here _ g.met.D.Device.time _ _ _ start before from _ _ at.done _ _ e.Done now (λ text wrote.
    (comes, fewer, wrote))

pub returns-in-Err-Failed-clause-goes : goal.returns-in-Err-Failed-clause-goes
returns-in-Err-Failed-clause-goes g c = λ start before from at.
    let comes = (rw c.in-Err-Failed.field-0-is at c.in-Err-Failed.ensures.goes) before.input at.done at.reads in
    let mid : Streams = record {
      input = g.I.Source.left c.next_line.new.input;
      asked = g.I.Source.left_before c.next_line.new.input;
      reads =
          g.I.Source.faults c.next_line.new.input;
      out = g.O.Sink.took c.args.out.now;
      writes = g.O.Sink.faults c.args.out.now;
    } in
    let now = stands_read _ g.met.D.Device.time _ _ _ start before from _ mid _ at.done _ _ at.after refl
    c.next_line.ensures.grows (omega arith) in
    ends_here _ g.met.D.Device.time _ _ _ start before from _ _ at.done _ _ e.ReadFault now
    (λ text wrote. (rose_earlier _ _ _ at.after.reads_grow comes.0, comes.1, wrote))

pub returns-in-Err-Memory-clause-goes : goal.returns-in-Err-Memory-clause-goes
returns-in-Err-Memory-clause-goes g c = λ start before from at.
    let comes = (rw c.in-Err-Memory.field-0-is at c.in-Err-Memory.ensures.goes) before.input at.done at.reads in
    let mid : Streams = record {
      input = g.I.Source.left c.next_line.new.input;
      asked = g.I.Source.left_before c.next_line.new.input;
      reads =
          g.I.Source.faults c.next_line.new.input;
      out = g.O.Sink.took c.args.out.now;
      writes = g.O.Sink.faults c.args.out.now;
    } in
    let now = stands_read _ g.met.D.Device.time _ _ _ start before from _ mid _ at.done _ _ at.after refl
    c.next_line.ensures.grows (omega arith) in
    ends_here _ g.met.D.Device.time _ _ _ start before from _ _ at.done _ _ e.Memory now (λ text wrote. (comes, wrote))

pub answer_held-requires-clause-holds : goal.answer_held-requires-clause-holds
answer_held-requires-clause-holds g c =
    holds_whole _ _ _ _ (Rose (g.I.Source.faults c.args.input.now) (g.I.Source.faults c.next_line.new.input))
    (rw c.in-Ok-Whole.field-0-is at c.in-Ok-Whole.ensures.goes)

pub returns-in-Ok-Whole-clause-goes : goal.returns-in-Ok-Whole-clause-goes
returns-in-Ok-Whole-clause-goes g c = λ start before from at.
    let (reads, holds) = (rw c.in-Ok-Whole.field-0-is at c.in-Ok-Whole.ensures.goes) before.input at.done at.reads in
    let mid : Streams = record {
      input = g.I.Source.left c.next_line.new.input;
      asked = g.I.Source.left_before c.next_line.new.input;
      reads =
          g.I.Source.faults c.next_line.new.input;
      out = g.O.Sink.took c.args.out.now;
      writes = g.O.Sink.faults c.args.out.now;
    } in
    let now = stands_read _ g.met.D.Device.time _ _ _ start before from _ mid _ at.done _ _ at.after refl
    c.next_line.ensures.grows (omega arith) in
    let asked = (rw c.in-Ok-Whole.field-0-is at c.in-Ok-Whole.ensures.asks) before.input at.done at.reads (λ some. subst
    (λ (n : ℕ). LastAsked before.input (g.I.Source.left_before c.args.input.now) n) (sym at.counted)
    (at.asked (omega (arith, some, at.counted)))) tt in
    c.answer_held.ensures.goes start before from _ _ _ at.done at.counted reads asked now

pub returns-in-Err-clause-goes : goal.returns-in-Err-clause-goes
returns-in-Err-clause-goes g c = λ start before from at.
    let comes = (rw c.in-Ok-Last.field-0-is at c.in-Ok-Last.ensures.goes) before.input at.done at.reads in
    let all = subst (λ (l : List ℕ). IsAll before.input (g.I.Source.left c.next_line.new.input) (at.done ++ l ∷ []))
    (sym c.held-line.ensures) comes in
    let mid : Streams = record {
      input = g.I.Source.left c.next_line.new.input;
      asked = g.I.Source.left_before c.next_line.new.input;
      reads =
          g.I.Source.faults c.next_line.new.input;
      out = g.O.Sink.took c.args.out.now;
      writes = g.O.Sink.faults c.args.out.now;
    } in
    let now = stands_read _ g.met.D.Device.time _ _ _ start before from _ mid _ at.done _ _ at.after refl
    c.next_line.ensures.grows (omega arith) in
    let asked = (rw c.in-Ok-Last.field-0-is at c.in-Ok-Last.ensures.asks) before.input at.done at.reads (λ some. subst
    (λ (n : ℕ). LastAsked before.input (g.I.Source.left_before c.args.input.now) n) (sym at.counted)
    (at.asked (omega (arith, some, at.counted)))) tt in
    let after : Streams = record {
      input = g.I.Source.left c.next_line.new.input;
      asked = g.I.Source.left_before c.next_line.new.input;
      reads = g.I.Source.faults c.next_line.new.input;
      out = g.O.Sink.took c.take_line.new.out;
      writes = g.O.Sink.faults c.take_line.new.out;
    } in
    ends_line _ g.met.D.Device.time _ _ _ start before from mid after _ _ at.done _ _ c.held-line.result.now
    c.take_line.new.node c.args.reached.count c.in-Err.end _
    at.counted c.requires.few now (took_last before after at.done c.held-line.result.now all asked) c.in-Err.ensures.crash
    (λ is. c.in-Err.ensures.stored (ap Err is))
    (λ is. c.in-Err.ensures.quiet (⊎_elim (λ h. inl (ap Err h)) (λ h. inr (ap Err h)) is)) c.in-Err.ensures.counted
    (omega arith) c.in-Err.ensures.out_grows c.in-Err.ensures.fails c.end_at.ensures

pub returns-in-Ok-clause-goes : goal.returns-in-Ok-clause-goes
returns-in-Ok-clause-goes g c = λ start before from at.
    let comes = (rw c.in-Ok-Last.field-0-is at c.in-Ok-Last.ensures.goes) before.input at.done at.reads in
    let all = subst (λ (l : List ℕ). IsAll before.input (g.I.Source.left c.next_line.new.input) (at.done ++ l ∷ []))
    (sym c.held-line.ensures) comes in
    let mid : Streams = record {
      input = g.I.Source.left c.next_line.new.input;
      asked = g.I.Source.left_before c.next_line.new.input;
      reads =
          g.I.Source.faults c.next_line.new.input;
      out = g.O.Sink.took c.args.out.now;
      writes = g.O.Sink.faults c.args.out.now;
    } in
    let now = stands_read _ g.met.D.Device.time _ _ _ start before from _ mid _ at.done _ _ at.after refl
    c.next_line.ensures.grows (omega arith) in
    let few = c.requires.few in
    let fewer : length (at.done ++ c.held-line.result.now ∷ []) ≤ MOST_LINES =
    omega (arith, at.counted, few, length-append at.done (c.held-line.result.now ∷ [])) in
    ends_here _ g.met.D.Device.time _ _ _ start before from _ _ (at.done ++ c.held-line.result.now ∷ []) _ _ e.Done
    (stands_more _ g.met.D.Device.time _ _ _ start before from mid _ _ _ at.done _ c.in-Ok.field-0 _
    (c.held-line.result.now ∷ []) c.in-Ok.ensures.answers.text c.take_line.new.node now
    c.in-Ok.ensures.crash c.in-Ok.ensures.kept
    (session_one _ _ _ _ _ _ _ c.in-Ok.ensures.answers.answers) c.in-Ok.ensures.answers.wrote
    c.in-Ok.ensures.counted c.in-Ok.ensures.store_grows (omega arith) c.in-Ok.ensures.out_grows)
    (λ text wrote. (all, fewer, wrote))
