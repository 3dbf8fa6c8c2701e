-- How a station's fields are seen.
use Rattle.station_graph.specs.Diagram.{Diagram}
use Rattle.station_graph.specs.declared.station.Station.TheInside.{Inside}

-- The diagram that a station holds.
abbrev pub diagram_of : Inside → Diagram
diagram_of s = record {
  node_paths = s.node_paths;
  part_paths = s.part_paths;
  switch_paths = s.switch_paths;
  switches = s.switches.items;
  links = s.links.items;
  taps = s.taps.items;
}
