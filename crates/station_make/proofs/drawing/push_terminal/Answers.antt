use Rattle.station_make.specs.DrawingText.{terminal_text}
use Rattle.station_make.proofs.Pushes.{on_ok, called, five}
use Rattle.station_make.proofs.drawing.push_terminal.Goals as goal

pub returns : goal.returns
unfolding terminal_text
returns c =
    on_ok c.push-4.result
    (five _ _ _ _ _ _ _ _ _ _ _ c.in_ok-push.ensures.ok c.in_ok-push_node_key.ensures c.in_ok-push-2.ensures.ok
    (called _ _ _ _ c.node_name.ensures c.in_ok-push-3.ensures.ok))
    c.push-4.ensures.ok
