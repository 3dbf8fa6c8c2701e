use Rattle.ssd_text.proofs.Ordered.{read_order}
use Rattle.ssd_text.proofs.laws.read_in_order.Goals as goal

pub returns : goal.returns
returns c = read_order
