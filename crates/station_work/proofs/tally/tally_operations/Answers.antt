use Rattle.station_work.proofs.Counting.{so_far_more}
use Rattle.station_work.proofs.tally.tally_operations.Goals as goal

pub loop-i-preserved : goal.loop-i-preserved
loop-i-preserved g c =
    let first = c.count.ensures in
    let second = c.count-in-loop-i.ensures in
    so_far_more c.args.sight c.args.station.now c.args.readings.now c.loop-i.i c.loop-i.tally
    c.count.new.self c.count-in-loop-i.new.self c.in_ok-opening.opening c.in_ok-closing.closing
    (c.in_ok-opening.ensures, (c.in_ok-closing.ensures, tt))
    record { released = first.released; denied = first.denied; sum = first.sum }
    record { released = second.released; denied = second.denied; sum = second.sum }
    c.loop-i.invariant
