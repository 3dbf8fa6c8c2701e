use Rattle.denial_explain.proofs.EndLemmas.{Gathers, TapAt}
use Rattle.denial_explain.proofs.chains.tap_nodes.Given as goal

abbrev pub invariant-loop-i : goal.invariant-loop-i
invariant-loop-i l = Gathers (TapAt l.station) l.i l.nodes
