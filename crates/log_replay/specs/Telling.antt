-- What the text of a report tells: of all that was shown, nothing is left open.
use Rattle.std.specs.Prelude.{◌≡◌, ◌==◌, ◌<◌, ◌≤◌, ◌-◌, ◌^◌, ⊤, ℕ, List, [], length, slice_index_or, All, Contains}
use Rattle.std.specs.Prelude.{Option, Some, None, if◌then◌else◌}
use Rattle.bay_frames.specs.declared.frame.Frame.{Frame}
use Rattle.station_graph.specs.Diagram.{Diagram, switch_path}
use Rattle.bay_protocol.specs.OutcomeLines.{OutcomeFits}
use Rattle.bay_protocol.specs.declared.values.Outcome.{Outcome}
use Rattle.bay_protocol.specs.declared.values.Outcome.TheVariants.{UnderWay, HeldBy, There, Spent, Collecting, Granted}
use Rattle.bay_protocol.specs.declared.values.Outcome.TheVariants.{Denied, BusyBy, Finished, Withdrawn, Stopped, Quiet}
use Rattle.reservation_core.specs.Lines.{Message, Shown, of_bay, shown}
use Rattle.reservation_core.specs.Runs.{nothing_shown}
use Rattle.reservation_core.specs.Premises.{number}
use Rattle.reservation_core.specs.declared.values.Which.{Which}
use Rattle.reservation_core.specs.declared.values.WorldOutcome.{WorldOutcome}
use Rattle.reservation_core.specs.declared.values.WorldOutcome.TheVariants.{Node}
use Rattle.log_replay.specs.Replay.{Replayed}
use Rattle.log_replay.specs.declared.limits.TheConstants.{MOST_RECORDS}

-- No path of a switch holds the end of a line, as no name in a drawing does.
abbrev pub PathsAreLines : Diagram → Type 0
PathsAreLines d = (i : ℕ) → ¬ Contains (switch_path d i) 10

-- A number of 32 bits, as rounds, messages and bays have.
abbrev pub Is32Bits : ℕ → Type 0
Is32Bits n = n < 2 ^ 32

-- The numbers of an outcome are such.
abbrev pub Are32Bits : Outcome → Type 0
Are32Bits (Collecting r) = Is32Bits r
Are32Bits (Granted r op) = Is32Bits r
Are32Bits (Denied r op rule v) = Is32Bits r
Are32Bits (BusyBy r bay holder q) = Is32Bits r × Is32Bits bay.0 × Is32Bits holder.0 × Is32Bits q
Are32Bits (HeldBy bay q) = Is32Bits bay.0 × Is32Bits q
Are32Bits (UnderWay r) = Is32Bits r
Are32Bits There = ⊤
Are32Bits Spent = ⊤
Are32Bits (Finished r) = Is32Bits r
Are32Bits (Withdrawn r) = Is32Bits r
Are32Bits (Stopped r) = Is32Bits r
Are32Bits Quiet = ⊤

-- The numbers of a message are such.
pub record IsNumbered (x : Message) : Type 0 where
  pub number : Is32Bits x.number
  pub from : Is32Bits x.from
  pub to : Is32Bits x.to
  pub round : Is32Bits x.round

-- The numbers of what comes of an event are such.
abbrev pub AreNumbered : Option WorldOutcome → Type 0
AreNumbered (Some (Node bay first output)) =
    Are32Bits output.outcome × All (λ (f : Frame). Is32Bits f.round) output.frames
AreNumbered outcome = ⊤

-- What is shown is of the station, without the moved switch of a denial, and its numbers are of 32 bits. Each message
-- is of the bay that is shown, which is 0 where nothing is.
pub record IsShowable (d : Diagram) (s : Shown) : Type 0 where
  pub fits : OutcomeFits d s.outcome
  pub unmoved : shown s.outcome ≡ s.outcome
  pub bay : Is32Bits s.bay
  pub numbers : Are32Bits s.outcome
  pub messages : All IsNumbered s.messages
  pub own : (x : Message) → Contains s.messages x → x.from ≡ s.bay
  pub silent : s.outcome ≡ Quiet → s.messages ≡ [] → s.bay ≡ 0

-- The same is shown: for each bay the same outcome, and the same messages.
pub record ShowSame (s t : Shown) : Type 0 where
  pub outcome : (b : ℕ) → of_bay s b ≡ of_bay t b
  pub messages : s.messages ≡ t.messages

-- What is shown at the line after so many; behind the last, nothing.
abbrev pub shown_after : List Shown → ℕ → Shown
shown_after out i = slice_index_or out i nothing_shown

-- How many lines a report shows: all records of the log, or those before the one that breaks a premise; none where it
-- is not told where each switch stands at first.
abbrev pub lines_shown : Option (ℕ × Which) → ℕ → ℕ
lines_shown None count = count
lines_shown (Some broken) count = if number broken.1 == 1 then 0 else broken.0 - 1

-- All that a report shows may be shown, for a log with so many records.
pub record IsWholeReport (d : Diagram) (count : ℕ) (r : Replayed) : Type 0 where
  pub showable : All (IsShowable d) r.out
  pub count_is : r.count ≡ count
  pub few : count ≤ MOST_RECORDS
  pub lines : length r.out ≡ lines_shown r.broken count
  pub within : length r.out ≤ count

-- The same is shown at each line, and where the one log was replayed to its end, so was the other.
pub record TellSame (r t : Replayed) : Type 0 where
  pub lines : (i : ℕ) → ShowSame (shown_after r.out i) (shown_after t.out i)
  pub ended : r.broken ≡ None → (t.broken ≡ None) × (t.count ≡ r.count)
