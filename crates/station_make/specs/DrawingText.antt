-- The drawing of the station, as an SSD (IEC 61850-6).
use Rattle.std.specs.Prelude.{◌++◌, ℕ, List, [], Option, Some, None, codes}
use Rattle.std.specs.List.{flat_map}
use Rattle.station_make.specs.declared.equipment.Bay.{Bay}
use Rattle.station_make.specs.declared.equipment.Node.{Node}
use Rattle.station_make.specs.declared.equipment.Terminal.{Terminal}
use Rattle.station_make.specs.declared.equipment.Designation.{Designation}
use Rattle.station_make.specs.declared.equipment.Switch.{Switch}
use Rattle.station_make.specs.Layout.{bays, nodes_of, switches_of, node_at}
use Rattle.station_make.specs.Names.{bay_name, node_name, node_key, switch_name, switch_type}

-- The line of a node.
unfoldable pub node_line : Bay → Node → List ℕ
node_line bay node =
    codes "<ConnectivityNode name=\"" ++ node_name node ++ codes "\" pathName=\"" ++ node_key (node_at bay node)
    ++ codes "\"/>\n"

-- A terminal.
unfoldable pub terminal_text : Terminal → List ℕ
terminal_text t =
    codes "<Terminal connectivityNode=\"" ++ node_key t ++ codes "\" cNodeName=\"" ++ node_name t.node ++ codes "\"/>"

-- The second terminal, if there is one.
abbrev pub second_text : Option Terminal → List ℕ
second_text (Some t) = terminal_text t
second_text None = []

-- The start of a switch of this name.
unfoldable pub switch_start : Designation → List ℕ
switch_start d =
    codes "<ConductingEquipment name=\"" ++ switch_name d ++ codes "\" type=\"" ++ switch_type d ++ codes "\">"

-- The line of a switch.
unfoldable pub switch_line : Switch → List ℕ
switch_line s =
    switch_start s.designation ++ terminal_text s.first ++ second_text s.second ++ codes "</ConductingEquipment>\n"

-- The lines of a bay: its nodes, then its switches.
unfoldable pub bay_text : Bay → List ℕ
bay_text bay =
    codes "<Bay name=\"" ++ bay_name bay ++ codes "\">\n"
    ++ flat_map (node_line bay) (nodes_of bay) ++ flat_map switch_line (switches_of bay) ++ codes "</Bay>\n"

-- The drawing of these bays.
abbrev pub drawing_of : List Bay → List ℕ
drawing_of bays =
    codes "<SCL>\n<Substation name=\"S\">\n<VoltageLevel name=\"V1\">\n"
    ++ flat_map bay_text bays ++ codes "</VoltageLevel>\n</Substation>\n</SCL>\n"

-- The drawing of the station with so many feeders.
abbrev pub station_text : ℕ → List ℕ
station_text feeders = drawing_of (bays feeders)
