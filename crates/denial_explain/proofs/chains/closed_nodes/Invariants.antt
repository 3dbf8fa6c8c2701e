use Rattle.denial_explain.proofs.EndLemmas.{Gathers, ClosedSwitch}
use Rattle.denial_explain.proofs.chains.closed_nodes.Given as goal

abbrev pub invariant-loop-i : goal.invariant-loop-i
invariant-loop-i l = Gathers (ClosedSwitch l.station l.vector l.kind) l.i l.nodes
