-- How a builder's fields are seen.
use Rattle.station_graph.specs.Diagram.{Diagram}
use Rattle.station_graph.specs.declared.builder.Builder.TheInside.{Inside}

-- The diagram that a builder holds.
abbrev pub draft_of : Inside → Diagram
draft_of b = record {
  node_paths = b.node_paths;
  part_paths = b.part_paths;
  switch_paths = b.switch_paths;
  switches = b.switches.items;
  links = b.links.items;
  taps = b.taps.items;
}
