use Rattle.std.proofs.Common.{◌↔◌, IsTrue, Contains, subst}
use Rattle.station_graph.specs.Diagram.{Diagram}
use Rattle.station_graph.proofs.builder.Builder.accepts_node.Goals as goal

pub returns : goal.returns
returns c =
    subst (λ (d : Diagram). IsTrue c.is_new.result ↔ (¬ Contains d.node_paths c.args.path.now)) c.self.view_is
    c.is_new.ensures
