use Rattle.std.proofs.Common.{ℕ, suc, drop}
use Rattle.dependence_search.specs.Parting.{PartsFrom, AreParting}
use Rattle.dependence_search.proofs.MarkLemmas.{MarkedUpto}
use Rattle.dependence_search.proofs.parting.nodes_before.Given as goal

abbrev pub invariant-loop-k : goal.invariant-loop-k
invariant-loop-k l = (count : ℕ) → AreParting l.graph.layers (suc l.layer) count l.after →
    MarkedUpto (PartsFrom (drop l.layer l.graph.layers) (suc count)) l.k l.marks.items
