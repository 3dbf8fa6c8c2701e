use Rattle.std.proofs.Common.{◌≡◌, map}
use Rattle.graph_walks.specs.Walks.{same_steps}
use Rattle.graph_walks.proofs.walk.same_steps.Given as goal

abbrev pub invariant-loop-j : goal.invariant-loop-j
invariant-loop-j l = map (λ r. r.items) l.steps.items ≡ same_steps l._j
