-- Runs with trips, and what is promised of them by their lines.
use Rattle.std.specs.Prelude.{◌≡◌, ◌<◌, ⊤, ℕ, Bool, true, List, [], ◌∷◌, length, slice_get, Some}
use Rattle.std.specs.Prelude.{None}
use Rattle.ilk_base.specs.declared.words.Op.{Op}
use Rattle.station_graph.specs.Diagram.{Diagram}
use Rattle.station_graph.specs.Alike.{IsVector}
use Rattle.station_graph.specs.CentralRules.{GapBreaks, LoadBreaks}
use Rattle.station_graph.specs.Supply.{Apart}
use Rattle.central_rules.specs.Meaning.{Meaning, bay_of}
use Rattle.reservation_core.specs.Scene.{ReadsAs}
use Rattle.reservation_core.specs.Lines.{Line, Shown}
use Rattle.reservation_core.specs.Runs.{Shows, MayHappenBy, IsPremiseOf}
use Rattle.reservation_core.specs.Headline.{DecidesWell, OpenSince, StopsWell, OwnMessages, HearNothing}
use Rattle.reservation_core.specs.declared.values.Which.{Which}
use Rattle.reservation_core.specs.declared.values.WorldEvent.{WorldEvent}
use Rattle.reservation_core.specs.declared.values.WorldOutcome.{WorldOutcome}
use Rattle.trip_core.specs.declared.values.TripEvent.{TripEvent}
use Rattle.trip_core.specs.declared.values.TripEvent.TheVariants.{Step, Trip}
use Rattle.trip_core.specs.Trips.{TripScene}
use Rattle.trip_core.specs.Start.{IsTripStart}
use Rattle.trip_core.specs.Happens.{TripHappens, TripInRange}
use Rattle.trip_core.specs.TripLines.{TripLine, plain, trip_true, trip_drives}
use Rattle.trip_core.specs.Used.{GrantedAt, NoneTripped}

-- One line leads from a scene to another.
pub record TripLeads (m : Meaning) (old : TripScene) (l : TripLine) (new : TripScene) : Type 0 where
  pub range : TripInRange m.diagram l.event
  pub outcome : WorldOutcome
  pub happens : TripHappens m old l.event new outcome
  pub shows : Shows outcome l.shown

-- These lines, newest first, lead from the start to the scene. A trip is a step of no node.
abbrev pub TripRun : Meaning → List Bool → List TripLine → TripScene → Type 0
TripRun m start [] s = IsTripStart m.diagram start s
TripRun m start (l ∷ before) s = (old : TripScene) × TripRun m start before old × TripLeads m old l s

-- ---- the premises 2 to 7, on the truth with trips

-- The event keeps its premise, by the lines before it. A trip has none.
abbrev pub TripMayHappen : Diagram → List Bool → List TripLine → TripEvent → Type 0
TripMayHappen d start before (Step e) = MayHappenBy d (trip_true d start before) (trip_drives before) (plain before) e
TripMayHappen d start before (Trip i) = ⊤

-- Each of the lines kept its premise.
abbrev pub TripPremisesHold : Diagram → List Bool → List TripLine → Type 0
TripPremisesHold d start [] = ⊤
TripPremisesHold d start (l ∷ before) = TripMayHappen d start before l.event × TripPremisesHold d start before

-- The event breaks this premise, by the lines before it.
pub record IsTripBroken (d : Diagram) (start : List Bool) (before : List TripLine) (event : WorldEvent)
    (which : Which) : Type 0 where
  pub broken : ¬ MayHappenBy d (trip_true d start before) (trip_drives before) (plain before) event
  pub named : IsPremiseOf event which

-- ---- what is promised

-- The vector resolves the truth after these lines.
pub record TripMayBeTrue (d : Diagram) (start : List Bool) (lines : List TripLine) (v : List Bool) : Type 0 where
  pub whole : IsVector d v
  pub each : (i : ℕ) (closed : Bool) → slice_get v i ≡ Some closed → ReadsAs (trip_true d start lines i) closed

-- The first half of the headline, at a line that is no trip, and what it says of rounds and messages.
abbrev pub TripDecides : Diagram → TripEvent → Shown → List Line → Type 0
TripDecides d (Step e) s before =
    DecidesWell d before (record { event = e; shown = s }) × StopsWell d before (record { event = e; shown = s })
    × OwnMessages (record { event = e; shown = s })
TripDecides d (Trip i) s before = ⊤

-- The last line decides as it must.
abbrev pub TripDecisions : Diagram → List TripLine → Type 0
TripDecisions d [] = ⊤
TripDecisions d (l ∷ before) = TripDecides d l.event l.shown (plain before)

-- Each drive that runs moves its switch by an operation that its bay was granted and that has not ended.
abbrev pub TripDrivesAreGranted : Diagram → List TripLine → Type 0
TripDrivesAreGranted d lines =
    (i : ℕ) → i < length d.switches → trip_drives lines i ≡ true →
    (r : ℕ) × (op : Op) × (op.switch.0 ≡ i) × OpenSince (plain lines) (bay_of d i) r op

-- Of two bays whose rounds are under way at once, neither has heard the other in its round.
abbrev pub TripsHearNothing : Diagram → List TripLine → Type 0
TripsHearNothing d lines = HearNothing d (plain lines)

-- To no operation that was granted and has not ended do the first two rules apply, in any vector that resolves the
-- truth, whatever has tripped.
abbrev pub ObeysGapSince : Diagram → List Bool → List TripLine → Type 0
ObeysGapSince d start lines = (c r : ℕ) (op : Op) (v : List Bool) → OpenSince (plain lines) c r op
    → TripMayBeTrue d start lines v → GapBreaks d v op None

-- Nor does the third, as long as none of the breakers that the grant used has tripped since their words were read.
abbrev pub ObeysLoadSince : Diagram → List Bool → List TripLine → Type 0
ObeysLoadSince d start lines = (c r : ℕ) (op : Op) (v : List Bool) (l : TripLine) (before : List TripLine)
    → GrantedAt lines c r op l before → NoneTripped d lines c op l before → TripMayBeTrue d start lines v
    → ¬ LoadBreaks d v op

-- In no vector that resolves the truth is a node both energisable and earthable.
abbrev pub IsTripSound : Diagram → List Bool → List TripLine → Type 0
IsTripSound d start lines = (v : List Bool) → TripMayBeTrue d start lines v → Apart d v

-- This holds after each of the lines, and at the start.
abbrev pub AtEachTrip : (List TripLine → Type 0) → List TripLine → Type 0
AtEachTrip P [] = P []
AtEachTrip P (l ∷ before) = P (l ∷ before) × AtEachTrip P before

-- What is promised of a run with trips: every decision is exact, every movement was granted and obeys the first two
-- rules on the true positions throughout, and the third as long as no breaker has tripped that its grant used; a sound
-- start stays sound, and two rounds at once hear nothing of each other.
pub record TripHeadline (d : Diagram) (start : List Bool) (lines : List TripLine) : Type 0 where
  pub decisions : AtEachTrip (TripDecisions d) lines
  pub granted : AtEachTrip (TripDrivesAreGranted d) lines
  pub first_two : AtEachTrip (ObeysGapSince d start) lines
  pub third : AtEachTrip (ObeysLoadSince d start) lines
  pub sound : IsTripSound d start [] → AtEachTrip (IsTripSound d start) lines
  pub apart : AtEachTrip (TripsHearNothing d) lines
