-- The lines of a log, oldest record first, with what is shown at each.
use Rattle.std.specs.Prelude.{◌≢◌, ◌<◌, ◌==◌, ℕ, Bool, true, false, List, [], ◌∷◌, length, count_by, Option, Some, None}
use Rattle.std.specs.Prelude.{unwrap_or, if◌then◌else◌}
use Rattle.station_graph.specs.Diagram.{Diagram}
use Rattle.reservation_core.specs.declared.values.LogEvent.{LogEvent}
use Rattle.reservation_core.specs.declared.values.LogEvent.TheVariants.{At, Step}
use Rattle.reservation_core.specs.Lines.{Shown, Line}
use Rattle.reservation_core.specs.History.{or_else}
use Rattle.reservation_core.specs.Hearing.{listed}

-- Where switch s stands at first, if the event tells it.
abbrev pub told_by : LogEvent → ℕ → Option Bool
told_by (At i closed) s = if i.0 == s then Some closed else None
told_by (Step e) s = None

-- Where switch s stands at first, if the log tells it.
abbrev pub told_at : List LogEvent → ℕ → Option Bool
told_at [] s = None
told_at (e ∷ log) s = or_else (told_by e s) (told_at log s)

-- The event tells where a switch stands at first; in any other something happens.
abbrev pub is_at : LogEvent → Bool
is_at (At i closed) = true
is_at (Step e) = false

-- How many events tell where a switch stands at first.
abbrev pub at_count : List LogEvent → ℕ
at_count log = count_by is_at log

-- The positions at the start.
abbrev pub start_of : Diagram → List LogEvent → List Bool
start_of d log = listed (λ s. unwrap_or (told_at log s) false) (length d.switches)

-- Premise 1: it is told of each switch where it stands at first.
abbrev pub HasStart : Diagram → List LogEvent → Type 0
HasStart d log = (s : ℕ) → s < length d.switches → told_at log s ≢ None

-- The lines of the records that are no `at`, newest first, in front of those seen.
abbrev pub lines_of : List LogEvent → List Shown → List Line → List Line
lines_of [] out seen = seen
lines_of (e ∷ log) [] seen = seen
lines_of (At i closed ∷ log) (s ∷ out) seen = lines_of log out seen
lines_of (Step e ∷ log) (s ∷ out) seen = lines_of log out (record { event = e; shown = s } ∷ seen)
