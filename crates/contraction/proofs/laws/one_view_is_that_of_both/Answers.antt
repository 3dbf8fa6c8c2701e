use Rattle.contraction.proofs.LawLemmas.{gap_alone, load_alone}
use Rattle.contraction.proofs.laws.one_view_is_that_of_both.Goals as goal

pub returns-clause-gap : goal.returns-clause-gap
returns-clause-gap c = gap_alone

pub returns-clause-load : goal.returns-clause-load
returns-clause-load c = load_alone
