use Rattle.decision_graphs.specs.Folding.{IsFolded}
use Rattle.decision_graphs.specs.RowIndex.{IsPairIndex}
use Rattle.decision_graphs.proofs.fold_pairs.fold_pairs.Given as goal

abbrev pub invariant-loop-node : goal.invariant-loop-node
invariant-loop-node l = record {
  folded : IsFolded l.shape l.edges l.next l.bound l.node
      (record { count = l.count; rows = l.rows.items; classes = l.classes.items });
  index : IsPairIndex l.count l.rows.items l.index;
}
