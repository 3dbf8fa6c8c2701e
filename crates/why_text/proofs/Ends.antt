-- A switch with two ends is one of the station.
use Rattle.std.proofs.Common.{◌<◌, ℕ, Bool, List, length}
use Rattle.std.proofs.lemmas.Option.{slice_get_within}
use Rattle.station_graph.specs.Diagram.{Diagram}
use Rattle.station_graph.specs.Connection.{ClosedBetween}

pub closed_within : (d : Diagram) (v : List Bool) (i a b : ℕ) → ClosedBetween d v i a b → i < length d.switches
closed_within d v i a b at = slice_get_within d.switches i at.switch at.listed
