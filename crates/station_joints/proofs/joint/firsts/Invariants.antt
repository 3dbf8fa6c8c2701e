use Rattle.std.proofs.Common.{◌≡◌, take, map}
use Rattle.station_joints.proofs.joint.firsts.Given as goal

abbrev pub invariant-loop-pair : goal.invariant-loop-pair
invariant-loop-pair l = l.steps.items ≡ map (λ x. x.first) (take l.pair-index l.pairs)
