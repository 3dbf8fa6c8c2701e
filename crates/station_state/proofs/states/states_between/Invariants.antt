use Rattle.station_state.specs.State.{AreBetween}
use Rattle.station_state.proofs.states.states_between.Given as goal

abbrev pub invariant-loop-i : goal.invariant-loop-i
invariant-loop-i l = AreBetween l.i l.station l.least.vector l.greatest.vector l.states.items
