-- The records of a log: the fields that say each event.
use Rattle.std.specs.Prelude.{◌≡◌, ◌==◌, ◌<◌, ◌≤◌, ⊤, ℕ, Bool, true, false, List, [], ◌∷◌, length, slice_index_or}
use Rattle.std.specs.Prelude.{codes, decimal}
use Rattle.std.specs.List.{list_any}
use Rattle.station_graph.specs.Diagram.{Diagram, switch_path}
use Rattle.central_rules.specs.Names.{direction_name, position_name, word_name}
use Rattle.reservation_core.specs.Happens.{InRange}
use Rattle.reservation_core.specs.declared.values.LogEvent.{LogEvent}
use Rattle.reservation_core.specs.declared.values.LogEvent.TheVariants.{At, Step}
use Rattle.reservation_core.specs.declared.values.WorldEvent.{WorldEvent}
use Rattle.reservation_core.specs.declared.values.WorldEvent.TheVariants.{Command, Sense, Deliver, Tick, Withdraw}
use Rattle.reservation_core.specs.declared.values.WorldEvent.TheVariants.{Restart, Begin, End, Part, Cut}
use Rattle.log_replay.specs.declared.numbers.TheConstants.{LAST_MESSAGE, MOST_CUT_BYTES}

-- The path of a part.
abbrev pub part_path : Diagram → ℕ → List ℕ
part_path d b = slice_index_or d.part_paths b []

-- The record of what happens next.
abbrev pub step_row : Diagram → WorldEvent → List (List ℕ)
step_row d (Command op) = codes "command" ∷ switch_path d op.switch.0 ∷ direction_name op.direction ∷ []
step_row d (Sense i word) = codes "sense" ∷ switch_path d i.0 ∷ word_name word ∷ []
step_row d (Deliver n) = codes "deliver" ∷ decimal n ∷ []
step_row d (Tick b) = codes "tick" ∷ part_path d b.0 ∷ []
step_row d (Withdraw b) = codes "withdraw" ∷ part_path d b.0 ∷ []
step_row d (Restart b) = codes "restart" ∷ part_path d b.0 ∷ []
step_row d (Begin i) = codes "begin" ∷ switch_path d i.0 ∷ []
step_row d (End i) = codes "end" ∷ switch_path d i.0 ∷ []
step_row d (Part n bytes) = codes "part" ∷ decimal n ∷ decimal bytes ∷ []
step_row d (Cut i) = codes "cut" ∷ switch_path d i.0 ∷ []

-- The record of an event.
abbrev pub event_row : Diagram → LogEvent → List (List ℕ)
event_row d (At i closed) = codes "at" ∷ switch_path d i.0 ∷ position_name closed ∷ []
event_row d (Step e) = step_row d e

-- The number of a message is one that a log may name.
abbrev pub IsMessageNumber : ℕ → Type 0
IsMessageNumber n = (1 ≤ n) × (n ≤ LAST_MESSAGE)

-- The numbers of an event are ones that a log may name.
abbrev pub NumbersFit : WorldEvent → Type 0
NumbersFit (Command op) = ⊤
NumbersFit (Sense i word) = ⊤
NumbersFit (Deliver n) = IsMessageNumber n
NumbersFit (Tick b) = ⊤
NumbersFit (Withdraw b) = ⊤
NumbersFit (Restart b) = ⊤
NumbersFit (Begin i) = ⊤
NumbersFit (End i) = ⊤
NumbersFit (Part n bytes) = IsMessageNumber n × (bytes ≤ MOST_CUT_BYTES)
NumbersFit (Cut i) = ⊤

-- The switch or the bay of an event is one of the station, and its numbers fit.
abbrev pub MayBeTold : Diagram → LogEvent → Type 0
MayBeTold d (At i closed) = i.0 < length d.switches
MayBeTold d (Step e) = InRange d e × NumbersFit e

-- The record says this event of the station.
pub record RecordSays (d : Diagram) (row : List (List ℕ)) (e : LogEvent) : Type 0 where
  pub written : row ≡ event_row d e
  pub told : MayBeTold d e

-- Something happens.
abbrev pub is_step : LogEvent → Bool
is_step (At i closed) = false
is_step (Step e) = true

-- It is told where switch i stands at first.
abbrev pub is_told_of : ℕ → LogEvent → Bool
is_told_of i (At j closed) = j.0 == i
is_told_of i (Step e) = false

-- Something has happened in these events.
abbrev pub has_step : List LogEvent → Bool
has_step events = list_any is_step events

-- They tell where switch i stands at first.
abbrev pub tell_of : ℕ → List LogEvent → Bool
tell_of i events = list_any (is_told_of i) events

-- The event tells again where a switch stands at first.
abbrev pub is_again : List LogEvent → LogEvent → Bool
is_again before (At i closed) = tell_of i.0 before
is_again before (Step e) = false
