use Rattle.station_work.proofs.Counting.{bay_more, part_more}
use Rattle.station_work.proofs.text.bay_count.Goals as goal
use Rattle.station_work.proofs.text.bay_count.Goals.{then-switches-gt0, else-switches-gt0}

pub loop-i-preserved : goal.loop-i-preserved
loop-i-preserved c =
    let d = c.args.station.now in
    let switches = c.switches_of-switches in
    let count = switches.result.1 in
    let counted = switches.ensures.value.counted in
    let far = c.loop-i.invariant in
    elim c.if-switches-gt0.branch [
      | then-switches-gt0 w ↦
          rw w.count-is (bay_more d c.loop-i.i c.loop-i.count count counted w.if-switches-gt0.true far)
      | else-switches-gt0 w ↦
          rw w.count-is (part_more d c.loop-i.i c.loop-i.count count counted w.if-switches-gt0.false far)
    ]
