use Rattle.std.proofs.Common.{◌≡◌, ◌∙◌, Ok, Err, Result, ap, true, false, Bool, IfErr}
use Rattle.csv.specs.Reading.{ExplainsRead, Ready, error_kind, stops_reader}
use Rattle.csv.specs.declared.error.Error.{Error}
use Rattle.csv.specs.declared.reader.Reader.{Reader}
use Rattle.double_points.specs.Left.{Bytes, ReaderStands, told}
use Rattle.double_points.proofs.Next.{goes_on, at_last, only_stops}
use Rattle.double_points.proofs.rows.Rows.next.Goals as goal

stops : (a b : Reader Bytes) (r : Result Bool Error) → ReaderStands a →
    IfErr r (λ e. Ready a → ExplainsRead told a b false (error_kind e)) →
    IfErr r (λ e. stops_reader (error_kind e) ≡ true)
stops a b (Ok x) i h = h
stops a b (Err e) i h = only_stops a b (error_kind e) i.flexible (h i.ready)

pub without_cause-requires : goal.without_cause-requires
without_cause-requires c = stops c.self.inside.reader c.read_byte_record.new.self c.read_byte_record.result
    (c.self.invariant c.if-self.false) c.read_byte_record.ensures.why

pub invariant_of-self-then-found : goal.invariant_of-self-then-found
invariant_of-self-then-found c = λ _.
    let i = c.self.invariant c.if-self.false in
    let e = c.read_byte_record.ensures in
    let was = c.in_ok-found.ensures ∙ ap Ok c.if-found.true in
    (goes_on _ c.read_byte_record.new.self _ i (rw was at e.reads i.plain i.ready) (rw was at e.ready i.plain)
    (rw was at e.flexible)).0

pub returns-then-found-clause-next : goal.returns-then-found-clause-next
returns-then-found-clause-next c =
    let i = c.self.invariant c.if-self.false in
    let e = c.read_byte_record.ensures in
    let was = c.in_ok-found.ensures ∙ ap Ok c.if-found.true in
    rw (← c.self.view_is, c.if-self.false)
    ((goes_on _ c.read_byte_record.new.self _ i (rw was at e.reads i.plain i.ready) (rw was at e.ready i.plain)
    (rw was at e.flexible)).1)

pub returns-clause-next : goal.returns-clause-next
returns-clause-next c =
    let i = c.self.invariant c.if-self.false in
    let e = c.read_byte_record.ensures in
    let was = c.in_ok-found.ensures ∙ ap Ok c.if-found.false in
    rw (← c.self.view_is, c.if-self.false) (at_last _ c.read_byte_record.new.self _ i
    (rw was at e.reads i.plain i.ready))
