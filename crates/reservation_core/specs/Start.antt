-- The world before anything happens.
use Rattle.std.specs.Prelude.{◌≡◌, ◌<◌, ℕ, Bool, false, List, [], length, slice_index_or, slice_get, Option, Some, None}
use Rattle.std.specs.Prelude.{if◌then◌else◌}
use Rattle.station_graph.specs.Diagram.{Diagram, part_count}
use Rattle.central_rules.specs.Meaning.{IsBay}
use Rattle.bay_protocol.specs.State.{State}
use Rattle.reservation_core.specs.Scene.{Scene, new_node, true_at, runs}
use Rattle.reservation_core.specs.declared.values.Position.{Position}
use Rattle.reservation_core.specs.declared.values.Position.TheVariants.{Open, Closed}

-- Where a switch that is closed or not stands.
abbrev pub position_of : Bool → Position
position_of closed = if closed then Closed else Open

-- The node of part b is one to which nothing has happened, or b is no bay and has none.
abbrev pub IsNew : Diagram → ℕ → Option State → Type 0
IsNew d b (Some s) = IsBay d b × (s ≡ new_node d b)
IsNew d b None = ¬ IsBay d b

-- There is a new node for each part that is a bay.
pub record AreNew (d : Diagram) (nodes : List (Option State)) : Type 0 where
  pub count : length nodes ≡ part_count d
  pub each : (b : ℕ) (place : Option State) → slice_get nodes b ≡ Some place → IsNew d b place

-- Nothing has happened to any bay, each switch stands as the vector says, no drive runs, and nothing was sent.
pub record IsStart (d : Diagram) (start : List Bool) (w : Scene) : Type 0 where
  pub nodes : AreNew d w.nodes
  pub truth : length w.truth ≡ length d.switches
  pub stands : (i : ℕ) → i < length d.switches → true_at w.truth i ≡ position_of (slice_index_or start i false)
  pub drives : length w.drives ≡ length d.switches
  pub still : (i : ℕ) → i < length d.switches → runs w.drives i ≡ false
  pub sent : w.sent ≡ []
