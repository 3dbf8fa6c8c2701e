use Rattle.station_changes.proofs.MirrorLemmas.{stays_released, was_released}
use Rattle.station_changes.proofs.laws.released_as_before.Goals as goal

pub returns-clause-stays : goal.returns-clause-stays
returns-clause-stays c = stays_released

pub returns-clause-was : goal.returns-clause-was
returns-clause-was c = was_released
