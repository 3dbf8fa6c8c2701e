use Rattle.std.proofs.Common.{refl}
use Rattle.bay_node.proofs.node.Node.end.Goals as goal

pub returns-clause-step : goal.returns-clause-step
returns-clause-step c = record {
  state = rw (c.sense.ensures, ← c.self.view_is) refl;
  says = refl;
  sends = rw (← c.self.view_is) c.in_ok-frames.ensures;
}
