use Rattle.station_graph.specs.Diagram.{node_count}
use Rattle.step_graphs.proofs.TouchLemmas.{spans_done}
use Rattle.step_graphs.proofs.spans.spans.Goals as goal

pub returns : goal.returns
returns c =
    spans_done c.args.station.now c.args.steps.now c.args.moved c.args.others (node_count c.args.station.now)
    c.touch_steps.new.spans.items c.requires.count c.requires.moved c.touch_steps.ensures
