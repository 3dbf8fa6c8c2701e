use Rattle.std.proofs.Common.{◌≡◌, map, take}
use Rattle.dependence_search.specs.Released.{released_name}
use Rattle.dependence_search.proofs.released.names_of.Given as goal

abbrev pub invariant-loop-t : goal.invariant-loop-t
invariant-loop-t l = l.names.items ≡ map (released_name l.direction) (take l.t l.codes)
