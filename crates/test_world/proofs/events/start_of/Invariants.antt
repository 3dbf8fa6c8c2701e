use Rattle.station_graph.specs.Alike.{IsVector}
use Rattle.test_world.proofs.events.start_of.Given as goal

abbrev pub invariant-loop-switch : goal.invariant-loop-switch
invariant-loop-switch l = IsVector l.station l.start
