use Rattle.contraction.proofs.LawLemmas.{restriction_gap, restriction_load}
use Rattle.contraction.proofs.laws.restriction_respects_views.Goals as goal

pub returns-clause-gap : goal.returns-clause-gap
returns-clause-gap c = restriction_gap

pub returns-clause-load : goal.returns-clause-load
returns-clause-load c = restriction_load
