use Rattle.bay_contract.proofs.PatternLemmas.{Follows}
use Rattle.bay_contract.proofs.pattern.pattern_of.Given as goal

abbrev pub invariant-switches : goal.invariant-switches
invariant-switches l = Follows l.station l.count l.course l.j l.layer.values.items l.layer.ranks.items l.forks.items
