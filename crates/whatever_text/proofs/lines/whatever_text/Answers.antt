use Rattle.std.proofs.Common.{◌++◌, ◌∷◌, []}
use Rattle.whatever_text.proofs.AllLines.{one_line}
use Rattle.whatever_text.proofs.lines.whatever_text.Goals as goal

pub loop-i-preserved : goal.loop-i-preserved
loop-i-preserved g c =
    let (lines, are) = c.loop-i.invariant in (
      lines ++ c.in_ok-next.next ∷ [],
      rw (c.in_ok-push.ensures.ok, c.bytes.ensures)
          (one_line c.loop-i.i c.args.station.now c.args.readings.now c.args.op lines c.loop-i.text c.in_ok-next.next are
          c.in_ok-next.ensures),
    )
