use Rattle.contraction.proofs.SameLemmas.{load_self, load_back, load_then}
use Rattle.contraction.proofs.laws.load_views_are_equal.Goals as goal

pub returns-clause-own : goal.returns-clause-own
returns-clause-own c = load_self

pub returns-clause-back : goal.returns-clause-back
returns-clause-back c = load_back

pub returns-clause-on : goal.returns-clause-on
returns-clause-on c = load_then
