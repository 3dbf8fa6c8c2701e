use Rattle.std.proofs.Common.{◌≡◌, is_none, take}
use Rattle.std.specs.List.{count_by}
use Rattle.station_graph.specs.declared.items.Switch.{Switch}
use Rattle.station_compare.specs.Sharing.{like_in}
use Rattle.station_compare.proofs.sharing.walked_switches.Given as goal

abbrev pub invariant-loop-k : goal.invariant-loop-k
invariant-loop-k l =
    l.count ≡ count_by (λ (x : Switch). is_none (like_in l.likes x.bay.0)) (take l.k l.new.switches)
