use Rattle.structured_text.specs.Order.{IsInput}
use Rattle.structured_text.proofs.OrderLaws.{same_meaning}
use Rattle.structured_text.proofs.laws.order_is_free.Goals as goal

pub returns : goal.returns
returns c lines more s order other among m set = same_meaning IsInput lines more s order other among m set
