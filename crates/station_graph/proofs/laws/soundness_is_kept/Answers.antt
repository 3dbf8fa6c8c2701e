use Rattle.std.proofs.Common.{sym}
use Rattle.station_graph.proofs.GapLemmas.{apart_same}
use Rattle.station_graph.proofs.ClosingLemmas.{apart_opened, apart_closed, apart_done}
use Rattle.station_graph.proofs.laws.soundness_is_kept.Goals as goal

pub returns-clause-breakers : goal.returns-clause-breakers
returns-clause-breakers c d v w len same = (
  apart_same d v w len same,
  apart_same d w v (sym len) (λ i other. sym (same i other)),
)

pub returns-clause-opening : goal.returns-clause-opening
returns-clause-opening c d v op = apart_opened d v op.switch.0

pub returns-clause-closing : goal.returns-clause-closing
returns-clause-closing c = apart_closed

pub returns-clause-carried_out : goal.returns-clause-carried_out
returns-clause-carried_out c = apart_done
