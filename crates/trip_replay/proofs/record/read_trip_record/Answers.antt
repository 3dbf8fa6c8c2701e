use Rattle.trip_replay.specs.TripRecords.{TripRecordFault}
use Rattle.trip_replay.proofs.record.read_trip_record.Goals as goal

pub returns-in-Err-clause-err : goal.returns-in-Err-clause-err
returns-in-Err-clause-err c = TripRecordFault.of_log (λ row. let so = c.is_trip.ensures.1 row in
    let not_so = c.if-is_trip.false in cc (so, not_so)) c.in-Err.ensures.err
