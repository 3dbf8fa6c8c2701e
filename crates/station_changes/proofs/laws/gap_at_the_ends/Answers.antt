use Rattle.station_changes.proofs.EndLemmas.{change_at_end}
use Rattle.station_changes.proofs.laws.gap_at_the_ends.Goals as goal

pub returns : goal.returns
returns c = change_at_end
