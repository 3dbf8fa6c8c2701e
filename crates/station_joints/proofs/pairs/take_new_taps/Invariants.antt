use Rattle.std.proofs.Common.{◌+◌, length}
use Rattle.station_joints.specs.Taking.{Olds, News, ArePairs}
use Rattle.station_joints.proofs.pairs.take_new_taps.Given as goal

abbrev pub invariant-loop-i : goal.invariant-loop-i
invariant-loop-i l =
    ArePairs l.old l.new (Olds l.old l.new (length l.new.switches) (length l.old.switches) 0 0) (News (length l.new.switches) (length l.new.links) l.i) (length l.new.switches + length l.old.switches + length l.new.links + l.i) l.pairs.items
