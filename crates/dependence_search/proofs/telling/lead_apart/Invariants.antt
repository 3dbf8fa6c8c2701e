use Rattle.dependence_search.specs.Parting.{LeadApart}
use Rattle.dependence_search.proofs.telling.lead_apart.Given as goal

abbrev pub invariant-loop-j : goal.invariant-loop-j
invariant-loop-j l = LeadApart l.graph l.layer l.j l.choices.items l.one l.other
