use Rattle.std.proofs.Common.{◌≡◌, ◌++◌, take}
use Rattle.std.specs.List.{flat_map}
use Rattle.station_make.specs.DrawingText.{node_line}
use Rattle.station_make.proofs.drawing.push_nodes.Given as goal

abbrev pub invariant-loop-node : goal.invariant-loop-node
invariant-loop-node l = l.text ≡ l.fn.text ++ flat_map (node_line l.bay) (take l.node-index l.nodes)
