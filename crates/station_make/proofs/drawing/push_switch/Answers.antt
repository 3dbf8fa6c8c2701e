use Rattle.station_make.specs.DrawingText.{switch_line}
use Rattle.station_make.proofs.Pushes.{on_ok, four}
use Rattle.station_make.proofs.drawing.push_switch.Goals as goal

pub returns : goal.returns
unfolding switch_line
returns c =
    on_ok c.push.result
    (four _ _ _ _ _ _ _ _ _ c.in_ok-push_switch_start.ensures c.in_ok-push_terminal.ensures c.in_ok-push_second.ensures)
    c.push.ensures.ok
