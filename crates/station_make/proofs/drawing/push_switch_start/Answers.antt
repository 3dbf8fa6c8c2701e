use Rattle.station_make.specs.DrawingText.{switch_start}
use Rattle.station_make.proofs.Pushes.{on_ok, called, five}
use Rattle.station_make.proofs.drawing.push_switch_start.Goals as goal

pub returns : goal.returns
unfolding switch_start
returns c =
    on_ok c.push-5.result
    (five _ _ _ _ _ _ _ _ _ _ _ c.in_ok-push.ensures.ok (called _ _ _ _ c.switch_name.ensures c.in_ok-push-2.ensures.ok)
    c.in_ok-push-3.ensures.ok (called _ _ _ _ c.switch_type.ensures c.in_ok-push-4.ensures.ok))
    c.push-5.ensures.ok
