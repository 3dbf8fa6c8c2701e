-- What a replay of a log with trips gives.
use Rattle.std.specs.Prelude.{◌≡◌, ◌+◌, List, [], length, slice_get, Option, Some, None}
use Rattle.central_rules.specs.Meaning.{Meaning}
use Rattle.reservation_core.specs.Lines.{Shown}
use Rattle.reservation_core.specs.declared.values.WorldEvent.{WorldEvent}
use Rattle.reservation_core.specs.declared.values.WorldOutcome.{WorldOutcome}
use Rattle.reservation_core.specs.declared.values.Which.{Which}
use Rattle.reservation_core.specs.declared.values.Which.TheVariants.{Start}
use Rattle.log_replay.specs.Replay.{Replayed}
use Rattle.trip_core.specs.Trips.{TripScene}
use Rattle.trip_core.specs.Happens.{TripHappens}
use Rattle.trip_core.specs.TripRuns.{TripRun, TripPremisesHold, IsTripBroken}
use Rattle.trip_core.specs.declared.values.TripEvent.TheVariants.{Step as Happening}
use Rattle.trip_replay.specs.TripLogLines.{trip_start_of, TripHasStart, trip_at_count, trip_lines_of}
use Rattle.trip_replay.specs.declared.event.TripLogEvent.{TripLogEvent}
use Rattle.trip_replay.specs.declared.event.TripLogEvent.TheVariants.{At, Step}

-- The event leads from the old scene to the new one, with this outcome; one that tells where a switch stands at
-- first changes nothing, and nothing comes of it.
abbrev pub TripLineHappens : Meaning → TripScene → TripLogEvent → TripScene → Option WorldOutcome → Type 0
TripLineHappens m old (At i closed) new None = new ≡ old
TripLineHappens m old (At i closed) new (Some outcome) = ⊥
TripLineHappens m old (Step e) new None = ⊥
TripLineHappens m old (Step e) new (Some outcome) = TripHappens m old e new outcome

-- What is shown is that of one run of the log, each line of which keeps its premise.
pub record IsTripRunOf (m : Meaning) (log : List TripLogEvent) (out : List Shown) (s : TripScene) : Type 0 where
  pub start : TripHasStart m.diagram log
  pub run : TripRun m (trip_start_of m.diagram log) (trip_lines_of log out []) s
  pub premises : TripPremisesHold m.diagram (trip_start_of m.diagram log) (trip_lines_of log out [])

-- The report is that of the log: of a run of all of it; or of a run up to the line before the first that breaks
-- a premise; or, where it is not told of each switch where it stands at first, of no line.
pub data IsTripReplay (m : Meaning) (log : List TripLogEvent) (r : Replayed) : Type 0 where
  whole : (s : TripScene) → IsTripRunOf m log r.out s → length r.out ≡ length log → r.broken ≡ None
      → IsTripReplay m log r
  stops : (s : TripScene) (e : WorldEvent) (which : Which) → IsTripRunOf m log r.out s
      → slice_get log (length r.out) ≡ Some (Step (Happening e)) → IsTripBroken m.diagram
      (trip_start_of m.diagram log) (trip_lines_of log r.out []) e which → r.broken ≡ Some (length r.out + 1, which)
      → IsTripReplay m log r
  no_start : ¬ TripHasStart m.diagram log → r.out ≡ [] → r.broken ≡ Some (trip_at_count log + 1, Start)
      → IsTripReplay m log r
