use Rattle.std.proofs.Common.{◌-◌, arith}
use Rattle.decision_graphs.specs.Label.{first_at}
use Rattle.test_judge.proofs.graph_edges.step.Goals as goal

pub edge-requires : goal.edge-requires
edge-requires c =
    record {
      layer = c.args.layer;
      within = c.args.node - first_at c.args.graph.now.layers c.args.layer;
      at = record {
        layer = omega arith;
        within = omega (arith, c.nodes-first.ensures.first, c.nodes-first.ensures.count);
        number = omega (arith, c.nodes-first.ensures.first);
      };
      choice_in = omega arith;
    }
