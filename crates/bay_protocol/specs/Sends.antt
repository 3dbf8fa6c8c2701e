-- What a bay sends.
use Rattle.std.specs.Prelude.{ℕ, List, map}
use Rattle.ilk_base.specs.declared.words.BayId.{BayId}
use Rattle.bay_frames.specs.declared.frame.Frame.{Frame}
use Rattle.bay_frames.specs.declared.frame.Body.{Body}
use Rattle.bay_frames.specs.declared.frame.Body.TheVariants.{Over}
use Rattle.station_graph.specs.Diagram.{Diagram}
use Rattle.bay_protocol.specs.State.{State, others}

-- A frame from one bay to another.
abbrev pub frame : ℕ → ℕ → ℕ → Body → Frame
frame from to round body = record { from = record { 0 = from }; to = record { 0 = to }; round = round; body = body }

-- The same to each of these bays.
abbrev pub to_each : ℕ → ℕ → Body → List ℕ → List Frame
to_each from round body tos = map (λ to. frame from to round body) tos

-- Over, with this round, to the others.
abbrev pub overs : Diagram → State → ℕ → List Frame
overs d s round = to_each s.bay round Over (others d s.bay)
