-- What the lines up to one of them say, newest first, of true positions, drives, operations, words, messages
-- and rounds. Each definition says what one line changes.
use Rattle.std.specs.Prelude.{◌==◌, ◌&&◌, ℕ, Bool, true, false, List, [], ◌∷◌, Option, Some, None, slice_index_or}
use Rattle.std.specs.Prelude.{if◌then◌else◌}
use Rattle.ilk_base.specs.declared.words.Op.{Op}
use Rattle.ilk_base.specs.declared.words.Dbpos.{Dbpos}
use Rattle.ilk_base.specs.declared.words.Dbpos.TheVariants.{Lost}
use Rattle.station_graph.specs.Diagram.{Diagram}
use Rattle.central_rules.specs.Meaning.{bay_of}
use Rattle.bay_protocol.specs.declared.values.Grant.{Grant}
use Rattle.bay_protocol.specs.declared.values.Outcome.{Outcome}
use Rattle.bay_protocol.specs.declared.values.Outcome.TheVariants.{Granted, Denied, Finished, Withdrawn, Stopped}
use Rattle.bay_protocol.specs.declared.values.Outcome.TheVariants.{Collecting, BusyBy}
use Rattle.reservation_core.specs.Scene.{end_position}
use Rattle.reservation_core.specs.Start.{position_of}
use Rattle.reservation_core.specs.declared.values.Position.{Position}
use Rattle.reservation_core.specs.declared.values.Position.TheVariants.{Between}
use Rattle.reservation_core.specs.declared.values.WorldEvent.{WorldEvent}
use Rattle.reservation_core.specs.declared.values.WorldEvent.TheVariants.{Command, Sense, Restart, Begin, End, Cut}
use Rattle.reservation_core.specs.Lines.{Message, Line, of_bay}

-- The first of two, where there is one, else the second.
abbrev pub or_else : {A : Type 0} → Option A → Option A → Option A
or_else None other = other
or_else (Some x) other = Some x

-- ---- operations

-- The operation that an outcome grants, if it is one of switch s.
abbrev pub granted_for : Outcome → ℕ → Option Op
granted_for (Granted r op) s = if op.switch.0 == s then Some op else None
granted_for outcome s = None

-- The operation that was last granted for a switch.
abbrev pub last_granted : Diagram → List Line → ℕ → Option Op
last_granted d [] s = None
last_granted d (l ∷ before) s = or_else (granted_for (of_bay l.shown (bay_of d s)) s) (last_granted d before s)

-- The operation of this round is open no more.
abbrev pub closes : ℕ → Option Grant → Option Grant
closes r (Some g) = if g.round == r then None else Some g
closes r None = None

-- What an outcome makes of the open operation of its bay.
abbrev pub open_after : Outcome → Option Grant → Option Grant
open_after (Granted r op) was = Some (record { round = r; op = op })
open_after (Finished r) was = closes r was
open_after (Withdrawn r) was = closes r was
open_after (Stopped r) was = closes r was
open_after outcome was = was

-- The open operation of a bay: from its grant until it is shown finished, withdrawn or stopped.
abbrev pub open_of : List Line → ℕ → Option Grant
open_of [] b = None
open_of (l ∷ before) b = open_after (of_bay l.shown b) (open_of before b)

-- ---- true positions and drives

-- The end to which an operation moves its switch.
abbrev pub end_after : Option Op → Position
end_after (Some op) = end_position op.direction
end_after None = Between

-- What an event makes of the true position of switch s, for which op was last granted.
abbrev pub moved : WorldEvent → ℕ → Option Op → Position → Position
moved (Begin i) s op was = if i.0 == s then Between else was
moved (End i) s op was = if i.0 == s then end_after op else was
moved event s op was = was

-- Where a switch truly stands: where it stood at first; then between from each begin of it; then, at each end,
-- where the operation that was last granted for it moves it.
abbrev pub true_after : Diagram → List Bool → List Line → ℕ → Position
true_after d start [] s = position_of (slice_index_or start s false)
true_after d start (l ∷ before) s = moved l.event s (last_granted d before s) (true_after d start before s)

-- What an event makes of the drive of switch s.
abbrev pub driven : WorldEvent → ℕ → Bool → Bool
driven (Begin i) s was = if i.0 == s then true else was
driven (End i) s was = if i.0 == s then false else was
driven (Cut i) s was = if i.0 == s then false else was
driven event s was = was

-- Whether the drive of a switch runs: from its begin to its end or cut.
abbrev pub drive_runs : List Line → ℕ → Bool
drive_runs [] s = false
drive_runs (l ∷ before) s = driven l.event s (drive_runs before s)

-- ---- words

-- The operation is of this round, and of switch s.
abbrev pub is_of : Option Grant → ℕ → ℕ → Bool
is_of (Some g) r s = g.round == r && g.op.switch.0 == s
is_of None r s = false

-- An operation of switch s is granted, or the open one is withdrawn or stopped.
abbrev pub takes_word : Outcome → Option Grant → ℕ → Bool
takes_word (Granted r op) was s = op.switch.0 == s
takes_word (Withdrawn r) was s = is_of was r s
takes_word (Stopped r) was s = is_of was r s
takes_word outcome was s = false

-- What an event makes of the word of switch s, of bay b.
abbrev pub sensed : WorldEvent → ℕ → ℕ → Dbpos → Dbpos
sensed (Sense i word) b s was = if i.0 == s then word else was
sensed (Restart c) b s was = if c.0 == b then Lost else was
sensed event b s was = was

-- The word of a switch: the last that was sensed after the last restart of its bay, and after the last line
-- that grants, withdraws or stops an operation of it; lost where there is none.
abbrev pub reading_at : Diagram → List Line → ℕ → Dbpos
reading_at d [] s = Lost
reading_at d (l ∷ before) s =
    if takes_word (of_bay l.shown (bay_of d s)) (open_of before (bay_of d s)) s then Lost
    else sensed l.event (bay_of d s) s (reading_at d before s)

-- ---- messages

-- The message of this number among these.
abbrev pub with_number : ℕ → List Message → Option Message
with_number n [] = None
with_number n (x ∷ xs) = if x.number == n then Some x else with_number n xs

-- A message, and the lines up to that which shows it.
pub record Sending : Type 0 where
  pub message : Message
  pub lines : List Line

-- The message, if there is one, with the lines up to its sending.
abbrev pub here : List Line → Option Message → Option Sending
here lines None = None
here lines (Some x) = Some (record { message = x; lines = lines })

-- The sending of the message of this number.
abbrev pub sending : List Line → ℕ → Option Sending
sending [] n = None
sending (l ∷ before) n = or_else (here (l ∷ before) (with_number n l.shown.messages)) (sending before n)

-- ---- rounds

-- A round that a bay has opened, and the operation that was commanded.
pub record Opened : Type 0 where
  pub round : ℕ
  pub op : Op

-- The round that a command opens.
abbrev pub opened_by : ℕ → WorldEvent → Option Opened
opened_by r (Command op) = Some (record { round = r; op = op })
opened_by r event = None

-- What an outcome makes of the round that its bay collects.
abbrev pub collecting_after : Outcome → WorldEvent → Option Opened → Option Opened
collecting_after (Collecting r) event was = opened_by r event
collecting_after (Granted r op) event was = None
collecting_after (Denied r op rule reading) event was = None
collecting_after (BusyBy r from holder q) event was = None
collecting_after (Withdrawn r) event was = None
collecting_after outcome event was = was

-- A restart of bay c forgets the round.
abbrev pub forgotten : WorldEvent → ℕ → Option Opened → Option Opened
forgotten (Restart b) c was = if b.0 == c then None else was
forgotten event c was = was

-- The round that a bay collects: from the command that opens it until a verdict, a Busy or a withdrawal is
-- shown for the bay, or it restarts.
abbrev pub collecting : List Line → ℕ → Option Opened
collecting [] c = None
collecting (l ∷ before) c = forgotten l.event c (collecting_after (of_bay l.shown c) l.event (collecting before c))

-- The round that an outcome opens.
abbrev pub round_shown : Outcome → Option ℕ
round_shown (Collecting r) = Some r
round_shown outcome = None

-- The round that was last opened by a bay that asks others.
abbrev pub last_round : List Line → ℕ → Option ℕ
last_round [] c = None
last_round (l ∷ before) c = or_else (round_shown (of_bay l.shown c)) (last_round before c)
