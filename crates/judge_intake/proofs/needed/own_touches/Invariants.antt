use Rattle.std.proofs.Common.{◌+◌, ◌<◌, ℕ}
use Rattle.station_graph.specs.Connection.{a_switch}
use Rattle.station_graph.specs.Sharing.{Touches}
use Rattle.judge_intake.proofs.needed.own_touches.Given as goal

-- none of the switches so far touches the node
abbrev pub invariant-loop-i : goal.invariant-loop-i
invariant-loop-i l = (k : ℕ) → k < l.i → Touches l.station (a_switch (l.first + k)) l.node → ⊥
