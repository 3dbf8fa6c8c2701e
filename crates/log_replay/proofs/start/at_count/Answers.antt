use Rattle.std.proofs.Common.{◌∙◌, ◌+◌, sym, ap}
use Rattle.log_replay.proofs.StartLemmas.{count_yes, count_no}
use Rattle.log_replay.proofs.start.at_count.Goals as goal
use Rattle.log_replay.proofs.start.at_count.Goals.{then-is_at, else-is_at}

pub loop-i-preserved : goal.loop-i-preserved
loop-i-preserved c = elim c.if-is_at.branch [
  | then-is_at w ↦ w.count-is ∙ ap (λ n. n + 1) c.loop-i.invariant
      ∙ sym (count_yes c.args.log.now c.loop-i.i c.event.result c.event.ensures (sym c.is_at.ensures ∙ w.if-is_at.true))
  | else-is_at w ↦ w.count-is ∙ c.loop-i.invariant
      ∙ sym (count_no c.args.log.now c.loop-i.i c.event.result c.event.ensures (sym c.is_at.ensures ∙ w.if-is_at.false))
]
