use Rattle.std.proofs.Common.{◌≡◌, ℕ, ◌<◌, take}
use Rattle.station_graph.specs.Diagram.{node_count}
use Rattle.ssd_read.specs.Steps.{links_after}
use Rattle.ssd_read.proofs.Linked.{last_of}
use Rattle.station_lines.specs.Lines.{AddsSteps}
use Rattle.station_lines.proofs.links.push_links_after.Given as goal

abbrev pub invariant-loop-node : goal.invariant-loop-node
invariant-loop-node l = record {
  adds : (part : ℕ) → AddsSteps l.station.node_paths l.word l.path
      (links_after l.bond part l.first (take l.node-index l.nodes)) l.initial.text l.text;
  last : l.last ≡ last_of l.first (take l.node-index l.nodes);
  last_in : l.last < node_count l.station;
}
