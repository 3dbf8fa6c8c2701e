-- The records of a log with trips: those of a log, and `trip` with the path of a breaker.
use Rattle.std.specs.Prelude.{◌≡◌, ◌≢◌, ◌<◌, ◌≤◌, ℕ, true, List, [], ◌∷◌, length, All, codes}
use Rattle.std.specs.Str.{is_utf8}
use Rattle.station_graph.specs.Diagram.{Diagram, switch_path}
use Rattle.reservation_core.specs.Happens.{InRange}
use Rattle.reservation_core.specs.declared.values.LogEvent.{LogEvent}
use Rattle.reservation_core.specs.declared.values.LogEvent.TheVariants.{At as TellsAt, Step as TellsStep}
use Rattle.reservation_core.specs.declared.values.WorldEvent.TheVariants.{Begin}
use Rattle.log_replay.specs.Records.{event_row, step_row, NumbersFit}
use Rattle.log_replay.specs.RecordFaults.{field, RecordFault}
use Rattle.log_replay.specs.declared.limits.TheConstants.{MOST_RECORDS}
use Rattle.trip_core.specs.Trips.{IsBreaker}
use Rattle.trip_core.specs.declared.values.TripEvent.TheVariants.{Step as Happening, Trip}
use Rattle.trip_replay.specs.declared.event.TripLogEvent.{TripLogEvent}
use Rattle.trip_replay.specs.declared.event.TripLogEvent.TheVariants.{At, Step}

-- An event as one of a log without trips. In the order and the start of a log a trip is what the begin of a drive
-- is: something that happens.
abbrev pub as_log : TripLogEvent → LogEvent
as_log (At i closed) = TellsAt i closed
as_log (Step (Happening e)) = TellsStep e
as_log (Step (Trip i)) = TellsStep (Begin i)

-- An event of a log without trips as one of a log with trips.
abbrev pub as_trip : LogEvent → TripLogEvent
as_trip (TellsAt i closed) = At i closed
as_trip (TellsStep e) = Step (Happening e)

-- The record of an event.
abbrev pub trip_event_row : Diagram → TripLogEvent → List (List ℕ)
trip_event_row d (At i closed) = event_row d (TellsAt i closed)
trip_event_row d (Step (Happening e)) = step_row d e
trip_event_row d (Step (Trip i)) = codes "trip" ∷ switch_path d i.0 ∷ []

-- The switch or the bay of an event is one of the station, its numbers fit, and what trips is a breaker.
abbrev pub TripMayBeTold : Diagram → TripLogEvent → Type 0
TripMayBeTold d (At i closed) = i.0 < length d.switches
TripMayBeTold d (Step (Happening e)) = InRange d e × NumbersFit e
TripMayBeTold d (Step (Trip i)) = IsBreaker d i.0

-- The record says this event of the station.
pub record TripSays (d : Diagram) (row : List (List ℕ)) (e : TripLogEvent) : Type 0 where
  pub written : row ≡ trip_event_row d e
  pub told : TripMayBeTold d e

-- The record is a `trip`.
abbrev pub IsTripRow : List (List ℕ) → Type 0
IsTripRow row = field row 0 ≡ codes "trip"

-- It has two fields, and each is UTF-8.
pub record TripForm (row : List (List ℕ)) : Type 0 where
  pub count : length row ≡ 2
  pub texts : All (λ text. is_utf8 text ≡ true) row

-- A record `trip` is at fault: it has not the form (1), or its path is no breaker's (2).
pub data TripFault (d : Diagram) (row : List (List ℕ)) (number : ℕ) : Type 0 where
  no_form : ¬ TripForm row → number ≡ 1 → TripFault d row number
  no_breaker : TripForm row → ((i : ℕ) → IsBreaker d i → field row 1 ≢ switch_path d i) → number ≡ 2
      → TripFault d row number

-- A record is refused after these events: it is a `trip`, and there were too many (9) or it has a fault; or it is no
-- `trip`, and it is refused as one of a log without trips.
pub data TripRecordFault (d : Diagram) (before : List LogEvent) (row : List (List ℕ)) (number : ℕ) : Type 0 where
  too_many : IsTripRow row → MOST_RECORDS ≤ length before → number ≡ 9 → TripRecordFault d before row number
  of_trip : IsTripRow row → length before < MOST_RECORDS → TripFault d row number → TripRecordFault d before row number
  of_log : ¬ IsTripRow row → RecordFault d before row number → TripRecordFault d before row number
