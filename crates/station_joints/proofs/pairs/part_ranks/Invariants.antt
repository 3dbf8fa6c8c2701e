use Rattle.std.proofs.Common.{◌≡◌, vec_len}
use Rattle.station_joints.proofs.pairs.part_ranks.Given as goal

abbrev pub invariant-loop-p : goal.invariant-loop-p
invariant-loop-p l = vec_len l.list ≡ l.p
