use Rattle.std.proofs.Common.{◌≡◌, ◌++◌, take}
use Rattle.path_names.proofs.tables.append_parts.Given as goal

abbrev pub invariant-loop-p : goal.invariant-loop-p
invariant-loop-p l = l.names.items ≡ l.initial.names.items ++ take l.p l.station.part_paths
