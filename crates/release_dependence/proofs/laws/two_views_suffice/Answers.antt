use Rattle.release_dependence.proofs.DependLemmas.{no_dependence}
use Rattle.release_dependence.proofs.laws.two_views_suffice.Goals as goal

pub returns : goal.returns
returns c = no_dependence
