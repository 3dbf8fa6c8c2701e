-- What a log says, and why bytes are no log.
use Rattle.std.specs.Prelude.{◌≡◌, ◌<◌, ◌≤◌, ◌+◌, ◌⊎◌, ⊤, ℕ, true, false, List, length, take, slice_get, Some, All}
use Rattle.std.specs.List.{AllZip}
use Rattle.std.specs.Str.{is_utf8}
use Rattle.ilk_base.specs.declared.words.InputRefusal.{InputRefusal}
use Rattle.station_graph.specs.Diagram.{Diagram}
use Rattle.double_points.specs.Rows.{rows_of}
use Rattle.reservation_core.specs.declared.values.LogEvent.{LogEvent}
use Rattle.reservation_core.specs.declared.values.LogEvent.TheVariants.{At, Step}
use Rattle.log_replay.specs.Records.{RecordSays, has_step, tell_of}
use Rattle.log_replay.specs.RecordFaults.{RecordFault}
use Rattle.log_replay.specs.declared.limits.TheConstants.{MOST_RECORDS}
use Rattle.ilk_base.specs.declared.limits.TheConstants.{FILE_BYTES}

-- The event may come after these: where a switch stands at first is told before anything happens, and once.
abbrev pub MayFollow : List LogEvent → LogEvent → Type 0
MayFollow before (Step e) = ⊤
MayFollow before (At i closed) = (has_step before ≡ false) × (tell_of i.0 before ≡ false)

-- Each of the events may come after those before it.
abbrev pub AreInOrder : List LogEvent → Type 0
AreInOrder events = (k : ℕ) (e : LogEvent) → slice_get events k ≡ Some e → MayFollow (take k events) e

-- Each field is UTF-8.
abbrev pub IsText : List (List ℕ) → Type 0
IsText row = All (λ text. is_utf8 text ≡ true) row

-- The records say these events, each one, in an order that may be.
pub record Tell (d : Diagram) (rows : List (List (List ℕ))) (events : List LogEvent) : Type 0 where
  pub each : AllZip (RecordSays d) rows events
  pub texts : All IsText rows
  pub order : AreInOrder events
  pub few : length events ≤ MOST_RECORDS

-- The bytes are a log with these events.
pub record IsLog (d : Diagram) (bytes : List ℕ) (events : List LogEvent) : Type 0 where
  pub few_bytes : length bytes ≤ FILE_BYTES
  pub tell : Tell d (rows_of bytes) events

-- The first record with a fault: those before it say events.
pub record IsFirstRecordFault (d : Diagram) (rows : List (List (List ℕ))) (r : InputRefusal) : Type 0 where
  pub before : List LogEvent
  pub row : List (List ℕ)
  pub tell : Tell d (take (length before) rows) before
  pub stands : slice_get rows (length before) ≡ Some row
  pub line : r.line ≡ length before + 1
  pub fault : RecordFault d before row r.number

-- Why the bytes are no log: they are too many (5, in no line), else by the first record with a fault.
abbrev pub IsLogFault : Diagram → List ℕ → InputRefusal → Type 0
IsLogFault d bytes r =
    ((FILE_BYTES < length bytes) × (r ≡ record { number = 5; line = 0 }))
    ⊎ ((length bytes ≤ FILE_BYTES) × IsFirstRecordFault d (rows_of bytes) r)
