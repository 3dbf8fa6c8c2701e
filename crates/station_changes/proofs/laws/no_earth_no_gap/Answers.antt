use Rattle.station_changes.proofs.LoadLemmas.{no_gap}
use Rattle.station_changes.proofs.laws.no_earth_no_gap.Goals as goal

pub returns : goal.returns
returns c = no_gap
