use Rattle.std.proofs.Common.{inr}
use Rattle.structured_text.specs.Order.{IsInput}
use Rattle.structured_text.proofs.OrderLaws.{decided}
use Rattle.structured_text.proofs.laws.inputs_decide.Goals as goal

pub returns : goal.returns
returns c lines s t order agree m set = decided IsInput lines order s t agree m (inr set)
