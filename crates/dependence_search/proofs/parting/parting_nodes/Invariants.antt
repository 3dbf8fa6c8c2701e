use Rattle.std.proofs.Common.{drop}
use Rattle.dependence_search.specs.Parting.{PartsFrom}
use Rattle.dependence_search.proofs.MarkLemmas.{MarkedUpto}
use Rattle.dependence_search.proofs.parting.parting_nodes.Given as goal

abbrev pub invariant-loop-k : goal.invariant-loop-k
invariant-loop-k l = MarkedUpto (PartsFrom (drop l.layer l.graph.layers) 0) l.k l.marks.items
