use Rattle.std.proofs.Common.{length, refl}
use Rattle.std.proofs.lemmas.Option.{slice_get_read}
use Rattle.station_equations.specs.EquationLines.{NodeLine}
use Rattle.station_equations.specs.EquationText.{node_line}
use Rattle.station_equations.proofs.TextLemmas.{line_more}
use Rattle.station_equations.proofs.writing.push_nodes.Goals as goal

pub loop-i-preserved : goal.loop-i-preserved
loop-i-preserved c =
    let nodes = c.args.nodes.now in
    let x = c.index-nodes-i.result in
    line_more (λ n (y : NodeLine). node_line n y) nodes c.loop-i.i x _ _ _
    (slice_get_read nodes (length nodes) c.loop-i.i x refl c.loop-i-test.true c.index-nodes-i.is) c.loop-i.invariant
    c.in_ok-push_node.ensures
