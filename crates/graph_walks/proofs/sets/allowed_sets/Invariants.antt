use Rattle.std.proofs.Common.{◌≡◌}
use Rattle.graph_walks.proofs.SetLemmas.{made_to}
use Rattle.graph_walks.proofs.sets.allowed_sets.Given as goal

abbrev pub invariant-loop-j : goal.invariant-loop-j
invariant-loop-j l = l.sets ≡ made_to l.free l.j
