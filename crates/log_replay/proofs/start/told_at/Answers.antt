use Rattle.std.proofs.Common.{◌∙◌, sym}
use Rattle.log_replay.proofs.StartLemmas.{told_found, told_missed}
use Rattle.log_replay.proofs.start.told_at.Goals as goal

pub returns-then-is_some : goal.returns-then-is_some
returns-then-is_some c = told_found c.args.log.now c.loop-i.i c.event.result c.args.id.0 c.told_by-told.result
    c.loop-i.invariant c.event.ensures c.told_by-told.ensures (sym c.is_some.ensures ∙ c.if-is_some.true)

pub loop-i-preserved : goal.loop-i-preserved
loop-i-preserved c = told_missed c.args.log.now c.loop-i.i c.event.result c.args.id.0 c.told_by-told.result
    c.loop-i.invariant c.event.ensures c.told_by-told.ensures (sym c.is_some.ensures ∙ c.if-is_some.false)
