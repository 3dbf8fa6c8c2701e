-- What a step of a node gives.
use Rattle.std.specs.Prelude.{◌≡◌, ◌≢◌, Option, Some, None}
use Rattle.bay_protocol.specs.declared.values.Kept.{Kept}
use Rattle.bay_protocol.specs.declared.values.NodeOutput.{NodeOutput}
use Rattle.bay_protocol.specs.State.{State}
use Rattle.bay_protocol.specs.Step.{Turn}

-- The new state, with what the output says of the step.
abbrev pub turn : State → NodeOutput → Turn
turn new out = record { new = new; outcome = out.outcome; frames = out.frames }

-- The new record is there exactly where what is kept has changed.
abbrev pub IsKeep : Kept → Kept → Option Kept → Type 0
IsKeep old new None = new ≡ old
IsKeep old new (Some k) = (k ≡ new) × (new ≢ old)
