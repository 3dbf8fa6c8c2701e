use Rattle.std.proofs.Common.{arith}
use Rattle.station_joints.proofs.ReorderLemmas.{joint_from, few_moved}
use Rattle.station_joints.proofs.joint.pairs_by_part.Goals as goal

pub returns-clause-joint : goal.returns-clause-joint
returns-clause-joint c =
    joint_from c.args.old.now c.args.new.now _ c.in_ok-pairs.pairs.items c.sort_by_key.new.self.items
    c.in_ok-pairs.ensures c.sort_by_key.ensures.permutation

pub returns-clause-few : goal.returns-clause-few
returns-clause-few c =
    let o = c.is_station.ensures.items in
    let n = c.is_station-2.ensures.items in
    omega (
      arith,
      few_moved c.args.old.now c.args.new.now _ _ _ c.in_ok-pairs.pairs.items c.sort_by_key.new.self.items
          c.in_ok-pairs.ensures c.sort_by_key.ensures.permutation,
      o.switches_few,
      o.links_few,
      o.taps_few,
      n.switches_few,
      n.links_few,
      n.taps_few,
    )
