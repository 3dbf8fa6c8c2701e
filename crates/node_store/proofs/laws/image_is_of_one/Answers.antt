use Rattle.node_store.proofs.Records.{stands_once}
use Rattle.node_store.proofs.laws.image_is_of_one.Goals as goal

pub returns : goal.returns
returns c = λ image a b first second. stands_once image a b first second
