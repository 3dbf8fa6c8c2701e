use Rattle.bay_contract.proofs.KeptLemmas.{FewerBelow}
use Rattle.bay_contract.proofs.kept.fewer_nodes.Given as goal

abbrev pub invariant-loop-i : goal.invariant-loop-i
invariant-loop-i l = FewerBelow l.station l.part.0 l.bound l.nodes l.i l.fewer
