use Rattle.station_changes.proofs.MirrorLemmas.{same_back, joint_back, isolated_back, change_back}
use Rattle.station_changes.proofs.laws.turned_round.Goals as goal

pub returns-clause-same : goal.returns-clause-same
returns-clause-same c = same_back

pub returns-clause-joint : goal.returns-clause-joint
returns-clause-joint c = joint_back

pub returns-clause-isolated : goal.returns-clause-isolated
returns-clause-isolated c = isolated_back

pub returns-clause-change : goal.returns-clause-change
returns-clause-change c = change_back
