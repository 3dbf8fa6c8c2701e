use Rattle.switching_orders.proofs.TextLemmas.{ok_lines-next, one_line_more}
use Rattle.switching_orders.proofs.text.push_passed.Goals as goal

pub loop-i-preserved : goal.loop-i-preserved
loop-i-preserved c = one_line_more _ _ _ _ _ _ c.in_ok-push_step.ensures c.loop-i.invariant
    (ok_lines-next c.args.station.now c.args.order.now c.loop-i.i c.step.result c.step.ensures)
