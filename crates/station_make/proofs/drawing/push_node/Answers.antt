use Rattle.std.proofs.Common.{ap}
use Rattle.station_make.specs.Names.{node_key}
use Rattle.station_make.specs.DrawingText.{node_line}
use Rattle.station_make.proofs.Pushes.{on_ok, called, five}
use Rattle.station_make.proofs.drawing.push_node.Goals as goal

pub returns : goal.returns
unfolding node_line
returns c =
    on_ok c.push-4.result
    (five _ _ _ _ _ _ _ _ _ _ _ c.in_ok-push.ensures.ok (called _ _ _ _ c.node_name.ensures c.in_ok-push-2.ensures.ok)
    c.in_ok-push-3.ensures.ok (called _ _ _ _ (ap node_key c.node_at.ensures) c.in_ok-push_node_key.ensures))
    c.push-4.ensures.ok
