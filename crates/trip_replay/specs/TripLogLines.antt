-- The lines of a log with trips, oldest record first, with what is shown at each.
use Rattle.std.specs.Prelude.{ℕ, Bool, List, [], ◌∷◌, map}
use Rattle.station_graph.specs.Diagram.{Diagram}
use Rattle.reservation_core.specs.Lines.{Shown}
use Rattle.reservation_core.specs.LogLines.{HasStart, start_of, at_count}
use Rattle.trip_core.specs.TripLines.{TripLine}
use Rattle.trip_replay.specs.TripRecords.{as_log}
use Rattle.trip_replay.specs.declared.event.TripLogEvent.{TripLogEvent}
use Rattle.trip_replay.specs.declared.event.TripLogEvent.TheVariants.{At, Step}

-- The positions at the start.
abbrev pub trip_start_of : Diagram → List TripLogEvent → List Bool
trip_start_of d log = start_of d (map as_log log)

-- Premise 1: it is told of each switch where it stands at first.
abbrev pub TripHasStart : Diagram → List TripLogEvent → Type 0
TripHasStart d log = HasStart d (map as_log log)

-- How many events tell where a switch stands at first.
abbrev pub trip_at_count : List TripLogEvent → ℕ
trip_at_count log = at_count (map as_log log)

-- The lines of the records that are no `at`, newest first, in front of those seen.
abbrev pub trip_lines_of : List TripLogEvent → List Shown → List TripLine → List TripLine
trip_lines_of [] out seen = seen
trip_lines_of (e ∷ log) [] seen = seen
trip_lines_of (At i closed ∷ log) (s ∷ out) seen = trip_lines_of log out seen
trip_lines_of (Step e ∷ log) (s ∷ out) seen = trip_lines_of log out (record { event = e; shown = s } ∷ seen)
