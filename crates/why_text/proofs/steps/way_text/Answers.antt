use Rattle.std.proofs.Common.{◌++◌, ◌∷◌, []}
use Rattle.why_text.proofs.OneStep.{one_step}
use Rattle.why_text.proofs.steps.way_text.Goals as goal

pub loop-i-preserved : goal.loop-i-preserved
loop-i-preserved c =
    let (lines, are) = c.loop-i.invariant in (
      lines ++ c.in_ok-next.next ∷ [],
      rw (c.in_ok-push.ensures.ok, c.bytes.ensures)
          (one_step c.loop-i.i c.args.station.now c.args.vector.now c.args.counted.now c.args.nodes.now lines c.loop-i.text
          c.in_ok-next.next are c.in_ok-next.ensures),
    )
