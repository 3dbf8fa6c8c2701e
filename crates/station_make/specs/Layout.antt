-- The station that is made: a double busbar with a coupler and so many feeders.
use Rattle.std.specs.Prelude.{◌==◌, ◌%◌, ℕ, Bool, true, false, not, List, [], ◌∷◌, map, Some, None}
use Rattle.std.specs.List.{flat_map, range_with_len}
use Rattle.station_make.specs.declared.equipment.Bay.{Bay}
use Rattle.station_make.specs.declared.equipment.Bay.TheVariants.{FirstBusbar, SecondBusbar, Coupler, Feeder}
use Rattle.station_make.specs.declared.equipment.Node.{Node}
use Rattle.station_make.specs.declared.equipment.Node.TheVariants.{Busbar, CouplerFirst, CouplerSecond, FeederFirst}
use Rattle.station_make.specs.declared.equipment.Node.TheVariants.{FeederSecond, FeederThird, Grounded}
use Rattle.station_make.specs.declared.equipment.Terminal.{Terminal}
use Rattle.station_make.specs.declared.equipment.Designation.{Designation}
use Rattle.station_make.specs.declared.equipment.Designation.TheVariants.{Qb1, Qb2, Qa1, Qb9, Qc9, E1}
use Rattle.station_make.specs.declared.equipment.Switch.{Switch}

-- The bays of the station with so many feeders, in document order.
abbrev pub bays : ℕ → List Bay
bays feeders = FirstBusbar ∷ SecondBusbar ∷ Coupler ∷ map Feeder (range_with_len 1 feeders)

-- The nodes of a bay, in document order.
abbrev pub nodes_of : Bay → List Node
nodes_of FirstBusbar = Busbar ∷ []
nodes_of SecondBusbar = Busbar ∷ []
nodes_of Coupler = CouplerFirst ∷ CouplerSecond ∷ []
nodes_of (Feeder i) = FeederFirst ∷ FeederSecond ∷ FeederThird ∷ []

-- The node of this bay.
abbrev pub node_at : Bay → Node → Terminal
node_at bay node = record { bay = bay; node = node }

-- The switch of the bay that stands between two nodes.
abbrev pub switch_between : Bay → Designation → Terminal → Terminal → Bool → Switch
switch_between bay designation first second is_on = record {
  bay = bay;
  designation = designation;
  first = first;
  second = Some second;
  is_on = is_on;
}

-- The infeed of the bay, which is on.
abbrev pub infeed_at : Bay → Terminal → Switch
infeed_at bay terminal = record { bay = bay; designation = E1; first = terminal; second = None; is_on = true }

-- Odd feeders stand on the first busbar, even ones on the second.
abbrev pub is_odd : ℕ → Bool
is_odd i = (i % 2) == 1

-- The switches of a bay, in document order: the coupler is through, and each feeder is through to its
-- busbar and not earthed.
abbrev pub switches_of : Bay → List Switch
switches_of FirstBusbar = []
switches_of SecondBusbar = []
switches_of Coupler =
    switch_between Coupler Qb1 (node_at FirstBusbar Busbar) (node_at Coupler CouplerFirst) true
    ∷ switch_between Coupler Qa1 (node_at Coupler CouplerFirst) (node_at Coupler CouplerSecond) true
    ∷ switch_between Coupler Qb2 (node_at Coupler CouplerSecond) (node_at SecondBusbar Busbar) true
    ∷ []
switches_of (Feeder i) =
    switch_between (Feeder i) Qb1 (node_at FirstBusbar Busbar) (node_at (Feeder i) FeederFirst) (is_odd i)
    ∷ switch_between (Feeder i) Qb2 (node_at SecondBusbar Busbar) (node_at (Feeder i) FeederFirst) (not (is_odd i))
    ∷ switch_between (Feeder i) Qa1 (node_at (Feeder i) FeederFirst) (node_at (Feeder i) FeederSecond) true
    ∷ switch_between (Feeder i) Qb9 (node_at (Feeder i) FeederSecond) (node_at (Feeder i) FeederThird) true
    ∷ switch_between (Feeder i) Qc9 (node_at (Feeder i) FeederThird) (node_at (Feeder i) Grounded) false
    ∷ infeed_at (Feeder i) (node_at (Feeder i) FeederThird)
    ∷ []

-- The switches of the station with so many feeders, in document order.
abbrev pub switches : ℕ → List Switch
switches feeders = flat_map switches_of (bays feeders)
