use Rattle.decision_graphs.proofs.LawLemmas.{nodes_are_apart, places_are_told}
use Rattle.decision_graphs.proofs.laws.reduced_nodes_are_apart.Goals as goal

pub returns-clause-apart : goal.returns-clause-apart
returns-clause-apart c g fit reduced = nodes_are_apart g fit reduced

pub returns-clause-told : goal.returns-clause-told
returns-clause-told c g fit reduced = places_are_told g fit reduced
