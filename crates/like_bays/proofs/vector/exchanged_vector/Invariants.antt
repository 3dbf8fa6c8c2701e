use Rattle.std.proofs.Common.{◌≡◌}
use Rattle.like_bays.proofs.VectorLemmas.{exchanged_first}
use Rattle.like_bays.proofs.vector.exchanged_vector.Given as goal

abbrev pub invariant-loop-i : goal.invariant-loop-i
invariant-loop-i l = l.list.items ≡ exchanged_first l.table l.closed l.i
