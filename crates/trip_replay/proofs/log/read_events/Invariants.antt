use Rattle.std.proofs.Common.{◌≡◌, length, take, drop, map}
use Rattle.double_points.specs.Rows.{rows_of}
use Rattle.trip_replay.specs.TripRecords.{as_log}
use Rattle.trip_replay.specs.TripLogs.{TripTell}
use Rattle.trip_replay.proofs.log.read_events.Given as goal

abbrev pub invariant-records : goal.invariant-records
invariant-records l = record {
  left : l.rows ≡ drop (length l.events.items) (rows_of l.bytes);
  tell : TripTell l.station (take (length l.events.items) (rows_of l.bytes)) l.events.items;
  plain : l.plain.items ≡ map as_log l.events.items;
}

abbrev pub decreases-records : goal.decreases-records
decreases-records l = length l.rows
