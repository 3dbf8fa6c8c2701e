use Rattle.std.proofs.Common.{sym}
use Rattle.station_graph.proofs.GapLemmas.{moved_passed, moved_same}
use Rattle.station_graph.proofs.laws.moved_switch_is_passed_over.Goals as goal

pub returns-clause-any_position : goal.returns-clause-any_position
returns-clause-any_position c = moved_passed

pub returns-clause-elsewhere : goal.returns-clause-elsewhere
returns-clause-elsewhere c d v w op answer len same = (
  moved_same d v w op answer len same,
  moved_same d w v op answer (sym len) (λ i other. sym (same i other)),
)
