use Rattle.std.proofs.Common.{◌≡◌, take, Ok}
use Rattle.station_graph.specs.Diagram.{node_count, part_count}
use Rattle.ssd_read.specs.Steps.{built, tap_steps}
use Rattle.ssd_read.proofs.links.add_taps.Given as goal

abbrev pub invariant-loop-node : goal.invariant-loop-node
invariant-loop-node l = record {
  builds : built l.initial.builder (tap_steps l.part.0 (take l.node-index l.nodes)) ≡ Ok l.builder;
  nodes : node_count l.builder ≡ node_count l.initial.builder;
  parts : part_count l.builder ≡ part_count l.initial.builder;
  switches : l.builder.switches ≡ l.initial.builder.switches;
}
