use Rattle.std.proofs.Common.{◌∙◌, arith}
use Rattle.bay_node.proofs.Ways.{sent_more, sent_same}
use Rattle.bay_node.proofs.sending.to_others.Goals.{then-is_other+in_ok-push, else-is_other}
use Rattle.bay_node.proofs.sending.to_others.Goals as goal

pub loop-part-preserved : goal.loop-part-preserved
loop-part-preserved c = elim c.if-is_other.branch [
  | then-is_other+in_ok-push w ↦
      sent_more c.args.station.now c.args.from.0 c.args.round c.args.body.now c.loop-part.part c.loop-part.frames
      c.if-is_other.frames c.loop-part.invariant (c.is_other.ensures.0 w.if-is_other.true)
      (w.frames-is ∙ w.in_ok-push.ensures.ok)
  | else-is_other w ↦
      sent_same c.args.station.now c.args.from.0 c.args.round c.args.body.now c.loop-part.part c.loop-part.frames
      c.if-is_other.frames c.loop-part.invariant
      (omega (arith, c.part_count-part-end.ensures.count, c.loop-part-test.true))
      (λ other. absurd (cc (c.is_other.ensures.1 other, w.if-is_other.false))) w.frames-is
]
