use Rattle.station_graph.proofs.MixLemmas.{mixed}
use Rattle.station_graph.proofs.laws.parts_mix.Goals as goal

pub returns : goal.returns
returns c = mixed
