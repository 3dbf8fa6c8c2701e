use Rattle.station_joints.specs.Taking.{Olds, News, ArePairs}
use Rattle.station_joints.proofs.pairs.take_new_switches.Given as goal

abbrev pub invariant-loop-k : goal.invariant-loop-k
invariant-loop-k l =
    ArePairs l.old l.new (Olds l.old l.new l.k 0 0 0) (News l.k 0 0) (l.k) l.pairs.items
