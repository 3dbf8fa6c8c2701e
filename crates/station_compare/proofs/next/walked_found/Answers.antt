use Rattle.std.proofs.Common.{refl, subst}
use Rattle.station_compare.specs.Width.{IsNarrowAlong, IsWideAlong}
use Rattle.station_compare.proofs.OrderLemmas.{narrow_here, narrow_next, wide_here}
use Rattle.station_compare.proofs.next.walked_found.Goals as goal

pub returns-in-Ok-clause-before : goal.returns-in-Ok-clause-before
returns-in-Ok-clause-before c =
    let o = c.args.old.now in
    let n = c.args.new.now in
    let w = c.args.walks.now in
    let k = c.args.id.0 in
    narrow_next o n w k c.requires.before c.requires.bay _ refl refl refl
    (narrow_here o n w k c.requires.before c.requires.bay (λ none. subst (λ l. IsNarrowAlong o n w.steps.old_steps.items
    w.steps.new_steps.items k l) c.requires.walks.sharing.limit c.in-Ok.ensures.narrow))

pub returns-in-Err-Wide-clause-refusal : goal.returns-in-Err-Wide-clause-refusal
returns-in-Err-Wide-clause-refusal c =
    wide_here c.args.old.now c.args.new.now c.args.walks.now c.args.id.0 c.requires.before c.requires.bay c.switch.result
    c.switch.ensures.value c.requires.not_carried (subst (λ l. IsWideAlong c.args.old.now c.args.new.now
    c.args.walks.now.steps.old_steps.items c.args.walks.now.steps.new_steps.items c.args.id.0 l)
    c.requires.walks.sharing.limit (c.in-Err-Wide.ensures.wide c.in-Err-Wide.field-0-is))
