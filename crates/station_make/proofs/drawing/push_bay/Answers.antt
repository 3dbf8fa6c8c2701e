use Rattle.std.proofs.Common.{◌∙◌, ap}
use Rattle.std.specs.List.{flat_map}
use Rattle.station_make.specs.DrawingText.{bay_text, node_line, switch_line}
use Rattle.station_make.proofs.Pushes.{on_ok, called, six}
use Rattle.station_make.proofs.drawing.push_bay.Goals as goal

pub returns : goal.returns
unfolding bay_text
returns c =
    on_ok c.push-3.result
    (six _ _ _ _ _ _ _ _ _ _ _ _ _ c.in_ok-push.ensures.ok c.in_ok-push_bay_name.ensures c.in_ok-push-2.ensures.ok
    (called _ _ _ _ (ap (flat_map (node_line c.args.bay)) c.nodes_of.ensures) c.in_ok-push_nodes.ensures)
    (called _ _ _ _ (ap (flat_map switch_line) (c.deref.ensures.value ∙ c.in_ok-switches_of.ensures))
    c.in_ok-push_switches.ensures))
    c.push-3.ensures.ok
