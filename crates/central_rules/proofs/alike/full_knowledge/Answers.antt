use Rattle.central_rules.proofs.FullLemmas.{same_by_full}
use Rattle.central_rules.proofs.alike.full_knowledge.Goals as goal

pub returns : goal.returns
returns c = same_by_full
