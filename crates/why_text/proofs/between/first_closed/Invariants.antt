use Rattle.std.proofs.Common.{◌<◌, ℕ}
use Rattle.station_graph.specs.Connection.{ClosedBetween}
use Rattle.why_text.proofs.between.first_closed.Given as goal

abbrev pub invariant-loop-i : goal.invariant-loop-i
invariant-loop-i l = (j : ℕ) → j < l.i → ¬ ClosedBetween l.station l.vector j l.a.0 l.b.0
