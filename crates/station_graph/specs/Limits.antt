-- The numbers of the limits of a station.
use Rattle.std.specs.Prelude.{ℕ}
use Rattle.station_graph.specs.declared.fault.What.{What}
use Rattle.station_graph.specs.declared.fault.What.TheVariants.{Bytes, Parts, Bays, Nodes, Switches, BaySwitches}
use Rattle.station_graph.specs.declared.fault.What.TheVariants.{Links, Taps, Paths}

-- The number of the limit for what is counted.
abbrev pub limit_number : What → ℕ
limit_number Bytes = 1
limit_number Parts = 2
limit_number Bays = 3
limit_number Nodes = 4
limit_number Switches = 5
limit_number BaySwitches = 6
limit_number Links = 7
limit_number Taps = 8
limit_number Paths = 9
