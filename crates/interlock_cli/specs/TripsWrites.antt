-- What `trips` writes, and how it ends.
use Rattle.std.specs.Prelude.{◌≡◌, ℕ, List, [], length}
use Rattle.station_graph.specs.Diagram.{Diagram}
use Rattle.part_alphabets.specs.Alphabets.{AreAlphabets}
use Rattle.release_compile.specs.Judging.{Judging}
use Rattle.release_compile.specs.Summaries.{judges}
use Rattle.log_replay.specs.Replay.{Replayed, report_text}
use Rattle.log_replay.specs.Telling.{IsWholeReport}
use Rattle.trip_core.specs.TripRuns.{TripHeadline}
use Rattle.trip_replay.specs.TripLogLines.{trip_start_of, trip_lines_of}
use Rattle.trip_replay.specs.TripReplays.{IsTripReplay}
use Rattle.trip_replay.specs.declared.event.TripLogEvent.{TripLogEvent}
use Rattle.interlock_cli.specs.ReplayWrites.{replay_outcome, IsReportOf}
use Rattle.interlock_cli.specs.declared.end.Outcome.{Outcome}

-- The report is that of one run of the log, by the graph judge of the station, and all that it shows is of the
-- station. Over the lines of the log, with what is shown at each, every decision is exact; every movement was granted
-- and obeys the first two rules on the true positions throughout, and the third as long as no breaker has tripped that
-- its grant used; and a sound start stays sound.
pub record ReplaysTrips (d : Diagram) (log : List TripLogEvent) (r : Replayed) : Type 0 where
  pub judging : Judging
  pub of_station : judging.diagram ≡ d
  pub alphabets : AreAlphabets judging.diagram judging.alphabets
  pub replay : IsTripReplay (judges judging) log r
  pub count : r.count ≡ length log
  pub whole : IsWholeReport d (length log) r
  pub headline : TripHeadline d (trip_start_of d log) (trip_lines_of log r.out [])

-- The text of the report; where a premise is broken, the call ends so. Whatever report is read out of the text, over
-- its lines the headline of trips holds.
pub record TripsWrites (d : Diagram) (log : List TripLogEvent) (outcome : Outcome) (text : List ℕ) : Type 0 where
  pub report : Replayed
  pub replays : ReplaysTrips d log report
  pub ends : outcome ≡ replay_outcome report.broken
  pub text_is : text ≡ report_text d report
  pub headline : (t : Replayed) → IsReportOf d (length log) outcome text t →
      TripHeadline d (trip_start_of d log) (trip_lines_of log t.out [])
