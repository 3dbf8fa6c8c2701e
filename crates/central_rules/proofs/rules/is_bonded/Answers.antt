use Rattle.std.proofs.Common.{true, rules}
use Rattle.station_graph.specs.Diagram.{node_count}
use Rattle.station_graph.specs.Connection.{Touching}
use Rattle.station_graph.proofs.ClassesLemmas.{same_from_linked, linked_from_same}
use Rattle.station_graph.proofs.PartialEdges.{touching_back}
use Rattle.central_rules.proofs.rules.is_bonded.Goals as goal

pub returns : goal.returns
returns c =
    let d = c.args.station.now in
    let v = c.args.vector.now in
    let back = touching_back true d v in (
      λ e. linked_from_same (Touching true d v) (node_count d) c.in_ok-bonded.bonded c.args.first.0 c.args.second.0 back
          c.in_ok-bonded.ensures c.requires.first c.requires.second (search rules),
      λ e. let same = same_from_linked (Touching true d v) (node_count d) c.in_ok-bonded.bonded c.args.first.0
          c.args.second.0 back c.in_ok-bonded.ensures c.requires.first c.requires.second e in search rules,
    )
