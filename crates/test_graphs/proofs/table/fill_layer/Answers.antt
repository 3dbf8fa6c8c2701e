use Rattle.std.proofs.Common.{◌+◌}
use Rattle.decision_graphs.proofs.BuildingLemmas.{MayHaveEdge-same}
use Rattle.test_graphs.proofs.table.fill_layer.Goals as goal

pub fill_row-requires-clause-edges : goal.fill_row-requires-clause-edges
fill_row-requires-clause-edges c choice to in_choices in_places =
    MayHaveEdge-same c.args.builder.now c.loop-node.builder (c.args.part.first + c.loop-node.node) choice
    (c.args.part.low + to) c.loop-node.invariant (c.requires.edges c.loop-node.node choice to c.loop-node-test.true
    in_choices in_places)
