use Rattle.ssd_read.proofs.Drawn.{stands_in}
use Rattle.ssd_read.proofs.laws.stands_in_order.Goals as goal

pub returns : goal.returns
returns c = λ tree i p o h e. stands_in tree i p o h e
