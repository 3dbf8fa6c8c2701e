use Rattle.station_lines.proofs.ShownLemmas.{one_text}
use Rattle.station_lines.proofs.laws.one_text_one_station.Goals as goal

pub returns : goal.returns
returns c = one_text
