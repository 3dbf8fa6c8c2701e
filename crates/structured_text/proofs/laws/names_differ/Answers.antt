use Rattle.structured_text.proofs.NameLemmas.{names_once}
use Rattle.structured_text.proofs.laws.names_differ.Goals as goal

pub returns : goal.returns
returns c paths m n p q e = names_once paths m n p q e
