-- The node that an event concerns.
use Rattle.std.specs.Prelude.{◌-◌, ℕ, Option, Some, None, slice_get}
use Rattle.station_graph.specs.Diagram.{Diagram}
use Rattle.central_rules.specs.Meaning.{bay_of}
use Rattle.bay_frames.specs.declared.frame.Frame.{Frame}
use Rattle.bay_protocol.specs.declared.values.NodeEvent.{NodeEvent}
use Rattle.bay_protocol.specs.declared.values.NodeEvent.TheVariants.{Command as Commanded, Sense as Sensing}
use Rattle.bay_protocol.specs.declared.values.NodeEvent.TheVariants.{Frame as Arrival, Tick as Ticking}
use Rattle.bay_protocol.specs.declared.values.NodeEvent.TheVariants.{Withdraw as Withdrawing, Restart as Restarting}
use Rattle.bay_protocol.specs.declared.values.NodeEvent.TheVariants.{Cut as Cutting}
use Rattle.reservation_core.specs.Scene.{Scene}
use Rattle.reservation_core.specs.declared.values.WorldEvent.{WorldEvent}
use Rattle.reservation_core.specs.declared.values.WorldEvent.TheVariants.{Command, Sense, Deliver, Tick, Withdraw}
use Rattle.reservation_core.specs.declared.values.WorldEvent.TheVariants.{Restart, Begin, End, Part, Cut}

-- A bay, what happens to its node, and the place of the message that comes to it, if one does.
pub record Concern : Type 0 where
  pub bay : ℕ
  pub message : ℕ
  pub event : NodeEvent

-- The arrival of the message at a place.
abbrev pub arrival : ℕ → Option Frame → Option Concern
arrival place (Some f) = Some (record { bay = f.to.0; message = place; event = Arrival f })
arrival place None = None

-- What happens to the node that the event concerns, where it concerns one.
abbrev pub concern : Diagram → Scene → WorldEvent → Option Concern
concern d w (Command op) = Some (record { bay = bay_of d op.switch.0; message = 0; event = Commanded op })
concern d w (Sense i word) = Some (record { bay = bay_of d i.0; message = 0; event = Sensing i word })
concern d w (Deliver k) = arrival (k - 1) (slice_get w.sent (k - 1))
concern d w (Tick b) = Some (record { bay = b.0; message = 0; event = Ticking })
concern d w (Withdraw b) = Some (record { bay = b.0; message = 0; event = Withdrawing })
concern d w (Restart b) = Some (record { bay = b.0; message = 0; event = Restarting })
concern d w (Begin i) = None
concern d w (End i) = None
concern d w (Part k bytes) = None
concern d w (Cut i) = Some (record { bay = bay_of d i.0; message = 0; event = Cutting i })
