use Rattle.contraction.proofs.LawLemmas.{composition_gap, composition_load}
use Rattle.contraction.proofs.laws.composition_respects_views.Goals as goal

pub returns-clause-gap : goal.returns-clause-gap
returns-clause-gap c = composition_gap

pub returns-clause-load : goal.returns-clause-load
returns-clause-load c = composition_load
