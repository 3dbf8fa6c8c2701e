use Rattle.std.proofs.Common.{◌≡◌, take}
use Rattle.step_graphs.proofs.ends.listed.Given as goal

abbrev pub invariant-loop-k : goal.invariant-loop-k
invariant-loop-k l = l.nodes ≡ take l.k l.numbers
