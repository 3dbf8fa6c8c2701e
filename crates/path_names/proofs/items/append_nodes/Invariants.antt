use Rattle.std.proofs.Common.{◌≡◌, ◌++◌, take}
use Rattle.path_names.proofs.items.append_nodes.Given as goal

abbrev pub invariant-loop-n : goal.invariant-loop-n
invariant-loop-n l = l.names.items ≡ l.initial.names.items ++ take l.n l.station.node_paths
