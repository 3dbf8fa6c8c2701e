use Rattle.station_make.proofs.Pushes.{three, six}
use Rattle.station_make.proofs.RecordLemmas.{lines_text-three, whole_log}
use Rattle.station_make.proofs.records.events.Goals as goal

pub returns : goal.returns
returns c =
    whole_log c.args.feeders c.args.switches.now c.new-text.result _ c.new-text.ensures
    (six _ _ _ _ _ _ _ _ _ _ _ _ _ c.in_ok-push_positions.ensures c.in_ok-push_positions-2.ensures
    c.in_ok-push_moved.ensures c.in_ok-push_delivers.ensures
    (lines_text-three _ _ _ _ _
    (three _ _ _ _ _ _ _ c.in_ok-push_moved-2.ensures c.in_ok-push_moved-3.ensures c.in_ok-push_moved-4.ensures))
    c.in_ok-push_delivers-2.ensures)
