use Rattle.release_dependence.proofs.DependLemmas.{depends_by_load}
use Rattle.release_dependence.proofs.laws.load_alone_suffices.Goals as goal

pub returns : goal.returns
returns c = depends_by_load
