-- The paths of stations as tables of names.
use Rattle.std.specs.Prelude.{◌++◌, ℕ, List}
use Rattle.station_graph.specs.Diagram.{Diagram}

-- The paths of the switches, and then those of the parts.
abbrev pub paths_of : Diagram → List (List ℕ)
paths_of d = d.switch_paths ++ d.part_paths

-- Those of the new station, and then those of the old one.
abbrev pub paths_of_both : Diagram → Diagram → List (List ℕ)
paths_of_both o n = paths_of n ++ paths_of o

-- The paths of the switches of a station, and then those of its nodes.
abbrev pub paths_of_items : Diagram → List (List ℕ)
paths_of_items d = d.switch_paths ++ d.node_paths
