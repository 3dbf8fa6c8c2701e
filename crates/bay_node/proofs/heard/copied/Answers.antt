use Rattle.std.proofs.Common.{arith}
use Rattle.bay_node.proofs.Places.{same_places}
use Rattle.bay_node.proofs.heard.copied.Goals as goal

pub returns : goal.returns
returns c =
    same_places c.loop-part.copy c.args.heard.now c.loop-part.invariant.count (λ k low. c.loop-part.invariant.done k
    (omega (arith, low, c.loop-part.invariant.count, c.requires, c.loop-part-test.false)))
