use Rattle.std.proofs.Common.{map, ap}
use Rattle.ssd_read.proofs.Ended.{one_more_empty, TerminalPlaces}
use Rattle.ssd_read.proofs.end_lists.EndLists.new.Goals as goal

pub loop-init : goal.loop-init
loop-init c = ap (map (λ (v : TerminalPlaces). v.items)) c.new-lists.ensures.items

pub loop-preserved : goal.loop-preserved
loop-preserved c = one_more_empty c.loop.lists.items c.push.new.self.items c.new.result c.loop.counter c.loop.invariant
    c.in_ok-push.ensures.items c.new.ensures.items
