-- All that is promised of a run with trips.
use Rattle.std.proofs.Common.{Bool, List}
use Rattle.station_graph.specs.Diagram.{IsStation}
use Rattle.central_rules.specs.Meaning.{Meaning, Laws}
use Rattle.trip_core.specs.Trips.{TripScene}
use Rattle.trip_core.specs.TripLines.{TripLine}
use Rattle.trip_core.specs.TripRuns.{TripRun, TripHeadline}
use Rattle.trip_replay.proofs.TripFollowing.{trip_decides, trip_granted, trip_obeys, trip_kept_sound, trip_apart}
use Rattle.trip_replay.proofs.NotesRun.{trip_loads}

pub trip_headline : (m : Meaning) (start : List Bool) (lines : List TripLine) (s : TripScene) → IsStation m.diagram
    → Laws m → TripRun m start lines s → TripHeadline m.diagram start lines
trip_headline m start lines s station laws run = record {
  decisions = trip_decides m start station laws lines s run;
  granted = trip_granted m start station laws lines s run;
  first_two = trip_obeys m start station laws lines s run;
  third = trip_loads m start station laws lines s run;
  sound = trip_kept_sound m start station laws lines s run;
  apart = trip_apart m start station laws lines s run;
}
