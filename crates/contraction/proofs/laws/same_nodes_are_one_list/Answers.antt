use Rattle.contraction.proofs.RisingLemmas.{kept_equal}
use Rattle.contraction.proofs.laws.same_nodes_are_one_list.Goals as goal

pub returns : goal.returns
returns c = kept_equal
