-- The lines of a log, and what is shown at each of them.
use Rattle.std.specs.Prelude.{◌+◌, ◌==◌, ℕ, false, List, [], ◌∷◌, slice_set, if◌then◌else◌}
use Rattle.bay_frames.specs.declared.frame.Frame.{Frame}
use Rattle.bay_frames.specs.declared.frame.Body.{Body}
use Rattle.bay_frames.specs.declared.frame.Body.TheVariants.{Reserve, Answer, Busy, Query, Over}
use Rattle.bay_protocol.specs.declared.values.Outcome.{Outcome}
use Rattle.bay_protocol.specs.declared.values.Outcome.TheVariants.{Denied, Quiet}
use Rattle.reservation_core.specs.declared.values.WorldEvent.{WorldEvent}

-- What a message is.
pub data MessageKind : Type 0 where
  reserve answer busy query over : MessageKind

-- A message that is shown: its number, kind, sender, receiver and round.
pub record Message : Type 0 where
  pub number : ℕ
  pub kind : MessageKind
  pub from : ℕ
  pub to : ℕ
  pub round : ℕ

-- What is shown at a line of a log: a bay, its outcome and its messages. Where nothing is shown the outcome is
-- Quiet, there is no message, and the bay is 0 and says nothing.
pub record Shown : Type 0 where
  pub bay : ℕ
  pub outcome : Outcome
  pub messages : List Message

-- A line: what happens, and what is shown.
pub record Line : Type 0 where
  pub event : WorldEvent
  pub shown : Shown

-- The outcome that is shown for a bay.
abbrev pub of_bay : Shown → ℕ → Outcome
of_bay s b = if s.bay == b then s.outcome else Quiet

-- ---- what is shown of a step

-- The kind of a frame.
abbrev pub kind_of : Body → MessageKind
kind_of Reserve = MessageKind.reserve
kind_of (Answer summary) = MessageKind.answer
kind_of (Busy holder q) = MessageKind.busy
kind_of Query = MessageKind.query
kind_of Over = MessageKind.over

-- A frame as a message of this number.
abbrev pub message : ℕ → Frame → Message
message number f = record { number = number; kind = kind_of f.body; from = f.from.0; to = f.to.0; round = f.round }

-- Frames are numbered one after the other.
abbrev pub messages : ℕ → List Frame → List Message
messages first [] = []
messages first (f ∷ fs) = message first f ∷ messages (first + 1) fs

-- Of the reading of a denial the moved switch is not shown.
abbrev pub shown : Outcome → Outcome
shown (Denied r op rule reading) = Denied r op rule (slice_set reading op.switch.0 false)
shown outcome = outcome
