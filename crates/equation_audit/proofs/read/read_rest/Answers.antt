use Rattle.std.proofs.Common.{◌∙◌, sym, ap, subst, ℕ, List, []}
use Rattle.std.proofs.lemmas.Result.{err_from_is_err_and}
use Rattle.text_lines.specs.Lines.{filled_left, line_count}
use Rattle.equation_audit.specs.declared.condition.Condition.{Condition}
use Rattle.equation_audit.specs.Equations.{Equation}
use Rattle.equation_audit.specs.BlockLines.{IsRest, BodyFaultAfter, body}
use Rattle.equation_audit.proofs.RestLemmas.{HasSaid, said_next, rest_read, never_read, never_fault, for_refused_weaker}
use Rattle.equation_audit.proofs.read.read_rest.Goals as goal

pub returns-then-is_end-clause-ok : goal.returns-then-is_end-clause-ok
returns-then-is_end-clause-ok c =
    let d = c.args.station.now in
    subst (IsRest c.args.station.now (filled_left c.args.lines.now) (filled_left c.next_filled.new.self))
    (ap (λ (e : Equation). e.alternatives) (sym c.in_ok-finish.ensures))
    (rest_read d (filled_left c.args.lines.now) (filled_left c.loop-number.lines) (c.in-Some.number, c.in-Some.line.now)
    (filled_left c.next_filled.new.self) c.loop-number.draft c.in-Some.ensures.some
    (c.is_end.ensures.0 c.if-is_end.true) c.loop-number.invariant.said)

pub returns-in_err-pass_end-clause-err : goal.returns-in_err-pass_end-clause-err
returns-in_err-pass_end-clause-err c =
    let d = c.args.station.now in
    let all = filled_left c.args.lines.now in
    let is = c.is_never.ensures.0 c.if-is_never.true in
    let said = subst (λ (alts : List (List Condition)). HasSaid c.args.station.now (filled_left c.args.lines.now)
    (filled_left c.loop-number.lines) (body alts)) is.0 c.loop-number.invariant.said in
    let counted = c.in-Some.ensures.count ∙ c.loop-number.invariant.count in
    let p = err_from_is_err_and c.from_residual-in_err-pass_end.result c.from_residual-in_err-pass_end.ensures.1 in
    rw (p.1, p.2) (for_refused_weaker c.in_err-pass_end.field-0.0 _ _ (λ r fault.
    never_fault c.args.station.now (filled_left c.args.lines.now) (filled_left c.loop-number.lines) (
      c.in-Some.number,
      c.in-Some.line.now,
    ) (filled_left c.next_filled.new.self) (line_count c.args.lines.now) r
    c.in-Some.ensures.some is.1
    (subst (λ (n : ℕ). BodyFaultAfter c.args.station.now [] [] (filled_left c.next_filled.new.self) n r) counted
    (fault c.args.station.now)) said)
    c.in_err-pass_end.ensures.err)

pub returns-then-is_never-clause-ok : goal.returns-then-is_never-clause-ok
returns-then-is_never-clause-ok c =
    let is = c.is_never.ensures.0 c.if-is_never.true in
    let said = subst (λ (alts : List (List Condition)). HasSaid c.args.station.now (filled_left c.args.lines.now)
    (filled_left c.loop-number.lines) (body alts)) is.0 c.loop-number.invariant.said in
    subst (IsRest c.args.station.now (filled_left c.args.lines.now) (filled_left c.pass_end.new.lines))
    (ap (λ (e : Equation). e.alternatives) (sym c.never.ensures))
    (never_read c.args.station.now (filled_left c.args.lines.now) (filled_left c.loop-number.lines) (
      c.in-Some.number,
      c.in-Some.line.now,
    ) (filled_left c.next_filled.new.self) (filled_left c.pass_end.new.lines) c.in-Some.ensures.some
    is.1 c.in_ok-pass_end.ensures.ok said)

pub loop-number-preserved : goal.loop-number-preserved
loop-number-preserved c = record {
  said = said_next c.args.station.now (filled_left c.args.lines.now) (filled_left c.loop-number.lines)
      (c.in-Some.number, c.in-Some.line.now) (filled_left c.next_filled.new.self) (body c.loop-number.draft)
      (body c.in_ok-draft.draft) c.in_ok-draft.ensures.ok.statement c.in-Some.ensures.some c.in_ok-draft.ensures.ok.more
      c.in_ok-draft.ensures.ok.says c.loop-number.invariant.said;
  some = c.in_ok-draft.ensures.some;
  below = c.in_ok-draft.ensures.own;
  few = c.in_ok-draft.ensures.few;
  count = c.in-Some.ensures.count ∙ c.loop-number.invariant.count;
}
