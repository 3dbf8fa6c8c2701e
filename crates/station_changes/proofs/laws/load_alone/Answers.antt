use Rattle.station_changes.proofs.AloneLemmas.{change_alone}
use Rattle.station_changes.proofs.laws.load_alone.Goals as goal

pub returns : goal.returns
returns c = change_alone
