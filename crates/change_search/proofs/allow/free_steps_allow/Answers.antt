use Rattle.change_search.proofs.AllowLemmas.{isolating_allowed, all_allowed}
use Rattle.change_search.proofs.allow.free_steps_allow.Goals as goal

pub returns-clause-isolating : goal.returns-clause-isolating
returns-clause-isolating c = isolating_allowed

pub returns-clause-all : goal.returns-clause-all
returns-clause-all c = all_allowed
