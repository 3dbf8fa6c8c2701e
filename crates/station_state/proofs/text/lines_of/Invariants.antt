use Rattle.std.proofs.Common.{◌≡◌}
use Rattle.station_state.proofs.TextLemmas.{first_lines}
use Rattle.station_state.proofs.text.lines_of.Given as goal

abbrev pub invariant-loop-i : goal.invariant-loop-i
invariant-loop-i l = l.text ≡ first_lines l.i l.states l.station.node_paths
