use Rattle.std.proofs.Common.{◌<◌, ℕ, false}
use Rattle.station_graph.specs.Connection.{LinkBetween}
use Rattle.why_text.proofs.between.first_link.Given as goal

abbrev pub invariant-loop-i : goal.invariant-loop-i
invariant-loop-i l = (j : ℕ) → j < l.i → ¬ LinkBetween l.station false j l.a.0 l.b.0
