use Rattle.std.proofs.Common.{Option, Some, None, IfSome, subst, zero-add}
use Rattle.decision_graphs.specs.Reaching.{IsSet}
use Rattle.decision_graphs.proofs.ways.allowed_ways.Goals as goal

if_some : {X P : Type 0} (o : Option X) → P → IfSome o (λ w. P)
if_some (Some w) p = p
if_some None p = tt

pub returns-then-all_set-clause-allowed : goal.returns-then-all_set-clause-allowed
returns-then-all_set-clause-allowed c =
    if_some c.ways_of.result
    (λ k lt. subst (λ i. IsSet c.args.allowed.now i) (zero-add k) (c.all_set.ensures c.if-all_set.true k lt))
