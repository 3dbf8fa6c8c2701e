use Rattle.station_changes.proofs.MirrorLemmas.{same_back}
use Rattle.station_joints.proofs.pairs.new_pair.Goals as goal

pub returns-in-None-clause-together : goal.returns-in-None-clause-together
returns-in-None-clause-together c =
    λ i s. c.in-None.ensures.none i (same_back c.args.old.now c.args.new.now i c.args.id.0 s)
