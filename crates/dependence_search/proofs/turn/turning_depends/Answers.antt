use Rattle.dependence_search.proofs.DependLemmas.{depends}
use Rattle.dependence_search.proofs.turn.turning_depends.Goals as goal

pub returns : goal.returns
returns c = depends
