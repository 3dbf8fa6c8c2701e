use Rattle.station_changes.proofs.LoadLemmas.{load_between}
use Rattle.station_changes.proofs.laws.load_lies_between.Goals as goal

pub returns-clause-between : goal.returns-clause-between
returns-clause-between c = load_between

pub returns-clause-earthing : goal.returns-clause-earthing
returns-clause-earthing c d v w op there back b = load_between d v w v op there back b b
