-- A world with trips before anything happens.
use Rattle.std.specs.Prelude.{◌≡◌, ◌<◌, ℕ, Bool, List, [], length, replicate, slice_index_or}
use Rattle.station_graph.specs.Diagram.{Diagram, part_count}
use Rattle.reservation_core.specs.World.{IsNewWorld}
use Rattle.trip_core.specs.Trips.{TripScene, lost}

-- Nothing has happened: no word was read, nothing has tripped, no bay knows anything, and there was no event.
pub record IsTripStart (d : Diagram) (start : List Bool) (s : TripScene) : Type 0 where
  pub world : IsNewWorld d start s.world
  pub sensed : s.sensed ≡ replicate (length d.switches) 0
  pub tripped : s.tripped ≡ replicate (length d.switches) 0
  pub beside : s.beside ≡ []
  pub each_known : length s.known ≡ part_count d
  pub known : (b : ℕ) → b < part_count d → slice_index_or s.known b [] ≡ replicate (length d.switches) lost
  pub events : s.events ≡ 0
