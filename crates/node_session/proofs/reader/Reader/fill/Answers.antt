use Rattle.std.proofs.Common.{◌∙◌, sym, ap, position, arith, inr}
use Rattle.ilk_base.proofs.Fronts.{rose_earlier}
use Rattle.node_session.specs.Reading.{is_feed, is_long}
use Rattle.node_session.proofs.Filling.{grows_more, recent_more, few_more, asked_more, fills_line, fills_long, fills_last}
use Rattle.node_session.proofs.Filling.{fill_fails}
use Rattle.node_session.proofs.reader.Reader.fill.Goals as goal

pub returns-in-Some-clause-ok : goal.returns-in-Some-clause-ok
returns-in-Some-clause-ok g c =
    let found = c.loop-len.invariant in
    fills_line _ _ _ _ _ found.grows found.few found.recent
    (ap (position is_feed) (sym c.held.ensures) ∙ sym c.first_feed.ensures ∙ c.in-Some.is)

pub returns-then-is_long-clause-ok : goal.returns-then-is_long-clause-ok
returns-then-is_long-clause-ok g c =
    let found = c.loop-len.invariant in
    fills_long _ _ _ _ found.grows found.few
    (ap (position is_feed) (sym c.held.ensures) ∙ sym c.first_feed.ensures ∙ c.in_default.is)
    (ap is_long (sym c.held-in-loop-len.ensures) ∙ sym c.is_long.ensures ∙ c.if-is_long.true)

pub returns-in-Ok-false-clause-ok : goal.returns-in-Ok-false-clause-ok
returns-in-Ok-false-clause-ok g c =
    let found = c.loop-len.invariant in
    fills_last _ _ _ _ _ _ found.grows found.few
    (ap (position is_feed) (sym c.held.ensures) ∙ sym c.first_feed.ensures ∙ c.in_default.is)
    (rw c.in-Ok-false.field-0-test at c.in-Ok-false.ensures.ok)

pub returns-in-Err-clause-err : goal.returns-in-Err-clause-err
returns-in-Err-clause-err g c =
    let found = c.loop-len.invariant in
    fill_fails _ _ _ _ _ _ _ _ c.in-Err.trouble (rose_earlier _ _ _ found.faults) found.grows
    (ap (position is_feed) (sym c.held.ensures) ∙ sym c.first_feed.ensures ∙ c.in_default.is) c.in-Err.ensures.err

pub loop-len-preserved : goal.loop-len-preserved
loop-len-preserved g c =
    let found = c.loop-len.invariant in
    let takes = rw c.in-Ok-true.field-0-test at c.in-Ok-true.ensures.ok in
    record {
      grows = grows_more _ _ _ _ _ _ _ found.grows takes;
      recent =
          recent_more _ _ _ _ (ap (position is_feed) (sym c.held.ensures) ∙ sym c.first_feed.ensures ∙ c.in_default.is)
          takes;
      asked = inr (asked_more _ _ _ _ _ found.grows
          (ap (position is_feed) (sym c.held.ensures) ∙ sym c.first_feed.ensures ∙ c.in_default.is)
          c.in-Ok-true.ensures.asked);
      few =
          few_more _ _ _ _ (ap is_long (sym c.held-in-loop-len.ensures) ∙ sym c.is_long.ensures ∙ c.if-is_long.false)
          takes;
      faults = omega (arith, found.faults, c.in-Ok-true.ensures.grows);
    }

pub returns-in-Ok-false-clause-asked : goal.returns-in-Ok-false-clause-asked
returns-in-Ok-false-clause-asked g c =
    let found = c.loop-len.invariant in
    inr (asked_more _ _ _ _ _ found.grows
    (ap (position is_feed) (sym c.held.ensures) ∙ sym c.first_feed.ensures ∙ c.in_default.is)
    c.in-Ok-false.ensures.asked)
