-- What `replay` writes, and how it ends.
use Rattle.std.specs.Prelude.{◌≡◌, ℕ, List, [], length, Option, Some, None}
use Rattle.station_graph.specs.Diagram.{Diagram}
use Rattle.part_alphabets.specs.Alphabets.{AreAlphabets}
use Rattle.release_compile.specs.Judging.{Judging}
use Rattle.release_compile.specs.Summaries.{judges}
use Rattle.reservation_core.specs.Premises.{number}
use Rattle.reservation_core.specs.LogLines.{start_of, lines_of}
use Rattle.reservation_core.specs.Headline.{Headline}
use Rattle.reservation_core.specs.declared.values.LogEvent.{LogEvent}
use Rattle.reservation_core.specs.declared.values.Which.{Which}
use Rattle.log_replay.specs.Replay.{Replayed, IsReplay, report_text}
use Rattle.log_replay.specs.Telling.{IsWholeReport}
use Rattle.interlock_cli.specs.declared.end.Outcome.{Outcome}
use Rattle.interlock_cli.specs.declared.end.Outcome.TheVariants.{Done, Premise}

-- How a replay ends: at the line of a broken premise, or at the end of its log.
abbrev pub replay_outcome : Option (ℕ × Which) → Outcome
replay_outcome None = Done
replay_outcome (Some broken) = Premise (number broken.1) broken.0

-- The report is that of one run of the log, by the graph judge of the station, and all that it shows is of the
-- station. The headline: over the lines of the log, with what is shown at each, every decision is exact, and every
-- movement was granted and obeys the rules on the true positions throughout.
pub record Replays (d : Diagram) (log : List LogEvent) (r : Replayed) : Type 0 where
  pub judging : Judging
  pub of_station : judging.diagram ≡ d
  pub alphabets : AreAlphabets judging.diagram judging.alphabets
  pub replay : IsReplay (judges judging) log r
  pub count : r.count ≡ length log
  pub whole : IsWholeReport d (length log) r
  pub headline : Headline d (start_of d log) (lines_of log r.out [])

-- A report that may be read out of a text, of a log with so many records, whose call ended so: all that it shows is of
-- the station, and it has this text.
pub record IsReportOf (d : Diagram) (count : ℕ) (outcome : Outcome) (text : List ℕ) (t : Replayed) : Type 0 where
  pub whole : IsWholeReport d count t
  pub ends : outcome ≡ replay_outcome t.broken
  pub text_is : text ≡ report_text d t

-- The text of the report; where a premise is broken, the call ends so. Whatever report is read out of the text, over
-- its lines the headline holds.
pub record ReplayWrites (d : Diagram) (log : List LogEvent) (outcome : Outcome) (text : List ℕ) : Type 0 where
  pub report : Replayed
  pub replays : Replays d log report
  pub ends : outcome ≡ replay_outcome report.broken
  pub text_is : text ≡ report_text d report
  pub headline : (t : Replayed) → IsReportOf d (length log) outcome text t →
      Headline d (start_of d log) (lines_of log t.out [])
