use Rattle.contraction.proofs.SameLemmas.{gap_self, gap_back, gap_then}
use Rattle.contraction.proofs.laws.gap_views_are_equal.Goals as goal

pub returns-clause-own : goal.returns-clause-own
returns-clause-own c = gap_self

pub returns-clause-back : goal.returns-clause-back
returns-clause-back c = gap_back

pub returns-clause-on : goal.returns-clause-on
returns-clause-on c = gap_then
