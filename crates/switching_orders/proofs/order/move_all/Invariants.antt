use Rattle.std.proofs.Common.{◌≡◌, length, take}
use Rattle.switching_orders.specs.OrderRuling.{after_all}
use Rattle.switching_orders.proofs.order.move_all.Given as goal

abbrev pub invariant-loop-op : goal.invariant-loop-op
invariant-loop-op l =
    record {
      count : length l.vector ≡ length l.fn.vector;
      is : l.vector ≡ after_all l.fn.vector (take l.op-index l.steps);
    }
