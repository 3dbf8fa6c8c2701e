use Rattle.station_lines.proofs.WholeLemmas.{said_is_read}
use Rattle.station_lines.proofs.laws.said_is_read.Goals as goal

pub returns : goal.returns
returns c = said_is_read
