use Rattle.std.proofs.Common.{◌≤◌, length, arith}
use Rattle.double_points.specs.Rows.{rows_of}
use Rattle.ilk_base.specs.declared.limits.TheConstants.{FILE_BYTES}
use Rattle.trip_replay.proofs.TripRows.{each_told, no_log}
use Rattle.trip_replay.proofs.log.read_trip_log.Goals as goal

pub returns-in-Ok-clause-ok : goal.returns-in-Ok-clause-ok
returns-in-Ok-clause-ok c = record { few_bytes = omega arith; tell = c.in-Ok.ensures.tell }

pub returns-in-Ok-clause-told : goal.returns-in-Ok-clause-told
returns-in-Ok-clause-told c =
    each_told c.args.station.now (rows_of c.args.bytes.now) c.read_events.new.events.items c.in-Ok.ensures.tell.each

pub returns-in-Err-clause-err : goal.returns-in-Err-clause-err
returns-in-Err-clause-err c =
    let few : length c.args.bytes.now ≤ FILE_BYTES = omega arith in
    no_log c.args.station.now c.args.bytes.now c.in-Err.fault few c.in-Err.ensures.err
