use Rattle.dependence_search.proofs.TellingLemmas.{IsOnWay}
use Rattle.dependence_search.proofs.telling.approach.Given as goal

abbrev pub invariant-loop-j : goal.invariant-loop-j
invariant-loop-j l = IsOnWay l.graph l.layer l.j l.choices.items l.node
