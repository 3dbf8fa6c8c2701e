-- What a replay of a log gives.
use Rattle.std.specs.Prelude.{◌≡◌, ◌++◌, ◌+◌, ◌<◌, ◌^◌, ℕ, Bool, true, false, List, [], length, count_by, slice_get}
use Rattle.std.specs.Prelude.{All, Option, Some, None}
use Rattle.station_graph.specs.Diagram.{Diagram}
use Rattle.central_rules.specs.Meaning.{Meaning}
use Rattle.bay_protocol.specs.OutcomeLines.{OutcomeFits}
use Rattle.bay_protocol.specs.declared.values.Outcome.{Outcome}
use Rattle.bay_protocol.specs.declared.values.Outcome.TheVariants.{Granted, Denied, Finished}
use Rattle.reservation_core.specs.Scene.{Scene}
use Rattle.reservation_core.specs.Lines.{Message, Shown}
use Rattle.reservation_core.specs.Runs.{Run, PremisesHold, IsBrokenBy, nothing_shown, shown_of}
use Rattle.reservation_core.specs.LogLines.{HasStart, start_of, lines_of, at_count}
use Rattle.reservation_core.specs.ReportLines.{report_lines, done_line}
use Rattle.reservation_core.specs.declared.values.LogEvent.{LogEvent}
use Rattle.reservation_core.specs.declared.values.LogEvent.TheVariants.{Step}
use Rattle.reservation_core.specs.declared.values.WorldEvent.{WorldEvent}
use Rattle.reservation_core.specs.declared.values.WorldOutcome.{WorldOutcome}
use Rattle.reservation_core.specs.declared.values.Which.{Which}
use Rattle.reservation_core.specs.declared.values.Which.TheVariants.{Start}

-- A report: what is shown at each line of the log, up to its end or to the line before a broken premise; the
-- line at which a premise is broken, if one is, and the premise; and how many records the log has.
pub record Replayed : Type 0 where
  pub out : List Shown
  pub broken : Option (ℕ × Which)
  pub count : ℕ

-- What is shown is that of one run of the log, each line of which keeps its premise.
pub record IsRunOf (m : Meaning) (log : List LogEvent) (out : List Shown) (w : Scene) : Type 0 where
  pub start : HasStart m.diagram log
  pub run : Run m (start_of m.diagram log) (lines_of log out []) w
  pub premises : PremisesHold m.diagram (start_of m.diagram log) (lines_of log out [])

-- The report is that of the log: of a run of all of it; or of a run up to the line before the first that breaks
-- a premise; or, where it is not told of each switch where it stands at first, of no line.
pub data IsReplay (m : Meaning) (log : List LogEvent) (r : Replayed) : Type 0 where
  whole : (w : Scene) → IsRunOf m log r.out w → length r.out ≡ length log → r.broken ≡ None → IsReplay m log r
  stops : (w : Scene) (e : WorldEvent) (which : Which) → IsRunOf m log r.out w →
      slice_get log (length r.out) ≡ Some (Step e) →
      IsBrokenBy m.diagram (start_of m.diagram log) (lines_of log r.out [])
      e which → r.broken ≡ Some (length r.out + 1, which) → IsReplay m log r
  no_start : ¬ HasStart m.diagram log → r.out ≡ [] → r.broken ≡ Some (at_count log + 1, Start) → IsReplay m log r

-- What is shown at a line of which this came; at a line that tells where a switch stands at first, nothing.
abbrev pub shown_at : Option WorldOutcome → Shown
shown_at None = nothing_shown
shown_at (Some outcome) = shown_of outcome

-- What the outcome names is of the station, and the numbers of the messages are 32 bits wide.
pub record ShownFits (d : Diagram) (s : Shown) : Type 0 where
  pub outcome : OutcomeFits d s.outcome
  pub numbers : All (λ (x : Message). x.number < 2 ^ 32) s.messages

-- All that is shown is of the station.
abbrev pub ReportFits : Diagram → Replayed → Type 0
ReportFits d r = All (ShownFits d) r.out

-- The last line: how many records there are, unless a premise is broken.
abbrev pub last_line : Option (ℕ × Which) → ℕ → List ℕ
last_line None count = done_line count
last_line (Some broken) count = []

-- The text of a report.
abbrev pub report_text : Diagram → Replayed → List ℕ
report_text d r = report_lines d r.out ++ last_line r.broken r.count

-- The outcome is a grant.
abbrev pub is_granted : Outcome → Bool
is_granted (Granted round op) = true
is_granted outcome = false

-- The outcome is a denial.
abbrev pub is_denied : Outcome → Bool
is_denied (Denied round op rule reading) = true
is_denied outcome = false

-- The outcome is the end of an operation.
abbrev pub is_finished : Outcome → Bool
is_finished (Finished round) = true
is_finished outcome = false

-- How many of the outcomes shown are such.
abbrev pub how_many : (Outcome → Bool) → List Shown → ℕ
how_many is_such out = count_by (λ (s : Shown). is_such s.outcome) out
