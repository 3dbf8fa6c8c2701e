-- The lines of a log with trips, newest first: the lines of before without the trips, and the true positions and
-- drives anew. Each definition says what one line changes.
use Rattle.std.specs.Prelude.{◌==◌, ℕ, Bool, false, List, [], ◌∷◌, length, Option, slice_index_or, if◌then◌else◌}
use Rattle.ilk_base.specs.declared.words.Op.{Op}
use Rattle.station_graph.specs.Diagram.{Diagram}
use Rattle.reservation_core.specs.Start.{position_of}
use Rattle.reservation_core.specs.Lines.{Shown, Line}
use Rattle.reservation_core.specs.History.{last_granted, moved, driven}
use Rattle.reservation_core.specs.declared.values.Position.{Position}
use Rattle.reservation_core.specs.declared.values.Position.TheVariants.{Open}
use Rattle.reservation_core.specs.declared.values.WorldEvent.TheVariants.{Sense}
use Rattle.trip_core.specs.declared.values.TripEvent.{TripEvent}
use Rattle.trip_core.specs.declared.values.TripEvent.TheVariants.{Step, Trip}

-- A line: what happens, and what is shown.
pub record TripLine : Type 0 where
  pub event : TripEvent
  pub shown : Shown

-- A line in front of these, unless it is a trip.
abbrev pub plain_line : TripEvent → Shown → List Line → List Line
plain_line (Step e) s rest = record { event = e; shown = s } ∷ rest
plain_line (Trip i) s rest = rest

-- The lines that are no trips: of words, messages, operations and rounds these alone speak.
abbrev pub plain : List TripLine → List Line
plain [] = []
plain (l ∷ before) = plain_line l.event l.shown (plain before)

-- What an event makes of the true position of switch s, for which op was last granted: a trip opens it.
abbrev pub trip_moved : TripEvent → ℕ → Option Op → Position → Position
trip_moved (Step e) s op was = moved e s op was
trip_moved (Trip i) s op was = if i.0 == s then Open else was

-- Where a switch truly stands: as without trips, and a breaker is open from each trip of it until its next begin.
abbrev pub trip_true : Diagram → List Bool → List TripLine → ℕ → Position
trip_true d start [] s = position_of (slice_index_or start s false)
trip_true d start (l ∷ before) s = trip_moved l.event s (last_granted d (plain before) s) (trip_true d start before s)

-- What an event makes of the drive of switch s: a trip stops it.
abbrev pub trip_driven : TripEvent → ℕ → Bool → Bool
trip_driven (Step e) s was = driven e s was
trip_driven (Trip i) s was = if i.0 == s then false else was

-- Whether the drive of a switch runs: from its begin to its end, cut or trip.
abbrev pub trip_drives : List TripLine → ℕ → Bool
trip_drives [] s = false
trip_drives (l ∷ before) s = trip_driven l.event s (trip_drives before s)

-- ---- the numbers of lines, from 1 for the first

-- A word of switch s is read.
abbrev pub is_sense : TripEvent → ℕ → Bool
is_sense (Step (Sense i word)) s = i.0 == s
is_sense event s = false

-- Switch s trips.
abbrev pub is_trip : TripEvent → ℕ → Bool
is_trip (Trip i) s = i.0 == s
is_trip (Step e) s = false

-- The number of the line at which a word of switch s was last read; 0 where none was.
abbrev pub sensed_line : List TripLine → ℕ → ℕ
sensed_line [] s = 0
sensed_line (l ∷ before) s = if is_sense l.event s then length (l ∷ before) else sensed_line before s

-- The number of the line at which switch s last tripped; 0 where it did not.
abbrev pub tripped_line : List TripLine → ℕ → ℕ
tripped_line [] s = 0
tripped_line (l ∷ before) s = if is_trip l.event s then length (l ∷ before) else tripped_line before s
