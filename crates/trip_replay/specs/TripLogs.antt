-- What a log with trips says, and why bytes are no such log.
use Rattle.std.specs.Prelude.{◌≡◌, ◌<◌, ◌≤◌, ◌+◌, ◌⊎◌, ℕ, List, length, take, map, slice_get, Some, All}
use Rattle.std.specs.List.{AllZip}
use Rattle.ilk_base.specs.declared.words.InputRefusal.{InputRefusal}
use Rattle.ilk_base.specs.declared.limits.TheConstants.{FILE_BYTES}
use Rattle.station_graph.specs.Diagram.{Diagram}
use Rattle.double_points.specs.Rows.{rows_of}
use Rattle.log_replay.specs.Log.{AreInOrder, IsText}
use Rattle.log_replay.specs.declared.limits.TheConstants.{MOST_RECORDS}
use Rattle.trip_replay.specs.TripRecords.{as_log, TripSays, TripRecordFault}
use Rattle.trip_replay.specs.declared.event.TripLogEvent.{TripLogEvent}

-- The records say these events, each one, in an order that may be.
pub record TripTell (d : Diagram) (rows : List (List (List ℕ))) (events : List TripLogEvent) : Type 0 where
  pub each : AllZip (TripSays d) rows events
  pub texts : All IsText rows
  pub order : AreInOrder (map as_log events)
  pub few : length events ≤ MOST_RECORDS

-- The bytes are a log with these events.
pub record IsTripLog (d : Diagram) (bytes : List ℕ) (events : List TripLogEvent) : Type 0 where
  pub few_bytes : length bytes ≤ FILE_BYTES
  pub tell : TripTell d (rows_of bytes) events

-- The first record with a fault: those before it say events.
pub record IsFirstTripFault (d : Diagram) (rows : List (List (List ℕ))) (r : InputRefusal) : Type 0 where
  pub before : List TripLogEvent
  pub row : List (List ℕ)
  pub tell : TripTell d (take (length before) rows) before
  pub stands : slice_get rows (length before) ≡ Some row
  pub line : r.line ≡ length before + 1
  pub fault : TripRecordFault d (map as_log before) row r.number

-- Why the bytes are no log: they are too many (5, in no line), else by the first record with a fault.
abbrev pub IsTripLogFault : Diagram → List ℕ → InputRefusal → Type 0
IsTripLogFault d bytes r =
    ((FILE_BYTES < length bytes) × (r ≡ record { number = 5; line = 0 }))
    ⊎ ((length bytes ≤ FILE_BYTES) × IsFirstTripFault d (rows_of bytes) r)
