use Rattle.std.proofs.Common.{◌+◌, length}
use Rattle.station_joints.specs.Taking.{Olds, News, ArePairs}
use Rattle.station_joints.proofs.pairs.take_new_links.Given as goal

abbrev pub invariant-loop-i : goal.invariant-loop-i
invariant-loop-i l =
    ArePairs l.old l.new (Olds l.old l.new (length l.new.switches) (length l.old.switches) 0 0) (News (length l.new.switches) l.i 0) (length l.new.switches + length l.old.switches + l.i) l.pairs.items
