use Rattle.contraction.proofs.LawLemmas.{gap_respected, load_respected}
use Rattle.contraction.proofs.laws.one_view_respects_it.Goals as goal

pub returns-clause-gap : goal.returns-clause-gap
returns-clause-gap c = gap_respected

pub returns-clause-load : goal.returns-clause-load
returns-clause-load c = load_respected
