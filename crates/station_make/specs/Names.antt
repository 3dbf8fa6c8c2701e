-- What the texts call the bays, nodes and switches.
use Rattle.std.specs.Prelude.{◌++◌, ℕ, Bool, true, false, List, codes, decimal}
use Rattle.station_make.specs.declared.equipment.Bay.{Bay}
use Rattle.station_make.specs.declared.equipment.Bay.TheVariants.{FirstBusbar, SecondBusbar, Coupler, Feeder}
use Rattle.station_make.specs.declared.equipment.Node.{Node}
use Rattle.station_make.specs.declared.equipment.Node.TheVariants.{Busbar, CouplerFirst, CouplerSecond, FeederFirst}
use Rattle.station_make.specs.declared.equipment.Node.TheVariants.{FeederSecond, FeederThird, Grounded}
use Rattle.station_make.specs.declared.equipment.Terminal.{Terminal}
use Rattle.station_make.specs.declared.equipment.Designation.{Designation}
use Rattle.station_make.specs.declared.equipment.Designation.TheVariants.{Qb1, Qb2, Qa1, Qb9, Qc9, E1}
use Rattle.station_make.specs.declared.equipment.Switch.{Switch}

-- The name of a bay.
abbrev pub bay_name : Bay → List ℕ
bay_name FirstBusbar = codes "W1"
bay_name SecondBusbar = codes "W2"
bay_name Coupler = codes "K0"
bay_name (Feeder i) = codes "Q" ++ decimal i

-- The name of a node.
abbrev pub node_name : Node → List ℕ
node_name Busbar = codes "B"
node_name CouplerFirst = codes "k1"
node_name CouplerSecond = codes "k2"
node_name FeederFirst = codes "n1"
node_name FeederSecond = codes "n2"
node_name FeederThird = codes "n3"
node_name Grounded = codes "grounded"

-- The name of a switch.
abbrev pub switch_name : Designation → List ℕ
switch_name Qb1 = codes "QB1"
switch_name Qb2 = codes "QB2"
switch_name Qa1 = codes "QA1"
switch_name Qb9 = codes "QB9"
switch_name Qc9 = codes "QC9"
switch_name E1 = codes "E1"

-- The type of a switch of this name (IEC 61850-6).
abbrev pub switch_type : Designation → List ℕ
switch_type Qb1 = codes "DIS"
switch_type Qb2 = codes "DIS"
switch_type Qa1 = codes "CBR"
switch_type Qb9 = codes "DIS"
switch_type Qc9 = codes "DIS"
switch_type E1 = codes "IFL"

-- The word for a position.
abbrev pub position_word : Bool → List ℕ
position_word true = codes "on"
position_word false = codes "off"

-- The path of a bay.
abbrev pub bay_path : Bay → List ℕ
bay_path bay = codes "S/V1/" ++ bay_name bay

-- The key of a node, which is its path.
abbrev pub node_key : Terminal → List ℕ
node_key t = bay_path t.bay ++ codes "/" ++ node_name t.node

-- The path of the switch of this name in a bay.
abbrev pub path_in : Bay → Designation → List ℕ
path_in bay designation = bay_path bay ++ codes "/" ++ switch_name designation

-- The path of a switch.
abbrev pub switch_path : Switch → List ℕ
switch_path s = path_in s.bay s.designation
