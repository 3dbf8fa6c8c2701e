use Rattle.std.proofs.Common.{◌≡◌, ◌<◌, take, Ok}
use Rattle.station_graph.specs.Diagram.{node_count, part_count}
use Rattle.ssd_read.specs.Steps.{built, links_after}
use Rattle.ssd_read.proofs.Linked.{last_of}
use Rattle.ssd_read.proofs.links.add_links_after.Given as goal

abbrev pub invariant-loop-node : goal.invariant-loop-node
invariant-loop-node l = record {
  builds : built l.initial.builder (links_after l.bond l.part.0 l.first (take l.node-index l.nodes)) ≡ Ok l.builder;
  last : l.last ≡ last_of l.first (take l.node-index l.nodes);
  last_in : l.last < node_count l.initial.builder;
  nodes : node_count l.builder ≡ node_count l.initial.builder;
  parts : part_count l.builder ≡ part_count l.initial.builder;
  switches : l.builder.switches ≡ l.initial.builder.switches;
}
