use Rattle.std.proofs.Common.{◌≡◌, length, take, drop}
use Rattle.double_points.specs.Rows.{rows_of}
use Rattle.log_replay.specs.Log.{Tell}
use Rattle.log_replay.proofs.log.read_events.Given as goal

abbrev pub invariant-records : goal.invariant-records
invariant-records l = record {
  left : l.rows ≡ drop (length l.events.items) (rows_of l.bytes);
  tell : Tell l.station (take (length l.events.items) (rows_of l.bytes)) l.events.items;
}

abbrev pub decreases-records : goal.decreases-records
decreases-records l = length l.rows
