use Rattle.std.proofs.Common.{◌≡◌, map, take}
use Rattle.graph_walks.specs.Walks.{codes_at}
use Rattle.graph_walks.proofs.walk.codes.Given as goal

abbrev pub invariant-loop-t : goal.invariant-loop-t
invariant-loop-t l = l.list.items ≡ map (codes_at l.one l.other) (take l.t l.pairs)
