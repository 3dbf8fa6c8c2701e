use Rattle.std.proofs.Common.{◌<◌, ◌≤◌, ℕ}
use Rattle.station_graph.specs.Connection.{a_switch}
use Rattle.station_graph.specs.Sharing.{Touches}
use Rattle.judge_pool.specs.Graphs.{other_of}
use Rattle.judge_intake.proofs.needed.other_touches.Given as goal

-- none of the switches so far touches the node
abbrev pub invariant-loop-i : goal.invariant-loop-i
invariant-loop-i l =
    (k : ℕ) → l.from ≤ k → k < l.i → Touches l.station (a_switch (other_of l.first l.moved k)) l.node → ⊥
