use Rattle.std.proofs.Common.{◌≡◌, ◌++◌, take}
use Rattle.judge_pool.specs.Layering.{at_places}
use Rattle.judge_pool.proofs.layer.add_edges.Given as goal

abbrev pub invariant-loop-c : goal.invariant-loop-c
invariant-loop-c l = l.edges.items ≡ l.fn.edges.items ++ at_places l.ends (take l.c l.places)
