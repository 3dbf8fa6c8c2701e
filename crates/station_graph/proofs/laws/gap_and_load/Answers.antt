use Rattle.std.proofs.Common.{sym}
use Rattle.station_graph.proofs.GapLemmas.{none_parts, gap_parts, load_parts, gap_same}
use Rattle.station_graph.proofs.laws.gap_and_load.Goals as goal

pub returns-clause-none : goal.returns-clause-none
returns-clause-none c = none_parts

pub returns-clause-gap : goal.returns-clause-gap
returns-clause-gap c = gap_parts

pub returns-clause-load : goal.returns-clause-load
returns-clause-load c = load_parts

pub returns-clause-breakers : goal.returns-clause-breakers
returns-clause-breakers c d v w op answer len same = (
  gap_same d v w op answer len same,
  gap_same d w v op answer (sym len) (λ i other. sym (same i other)),
)
