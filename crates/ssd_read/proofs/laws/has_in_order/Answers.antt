use Rattle.ssd_read.proofs.InOrder.{has_in_order}
use Rattle.ssd_read.proofs.laws.has_in_order.Goals as goal

pub returns : goal.returns
returns c = λ tree d o h. has_in_order tree d o h
