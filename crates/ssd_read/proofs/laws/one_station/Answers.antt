use Rattle.ssd_read.proofs.Once.{one_station}
use Rattle.ssd_read.proofs.laws.one_station.Goals as goal

pub returns : goal.returns
returns c = one_station
