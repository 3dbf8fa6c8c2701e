use Rattle.std.proofs.Common.{◌≡◌, length, take}
use Rattle.switching_orders.specs.OrderRuling.{after_all}
use Rattle.switching_orders.proofs.Steps.{EachAfter}
use Rattle.switching_orders.proofs.RulingLemmas.{IsOk}
use Rattle.switching_orders.proofs.judging.judge_order.Given as goal

abbrev pub invariant-loop-i : goal.invariant-loop-i
invariant-loop-i l =
    record {
      count : length l.vector ≡ length l.station.switches;
      is : l.vector ≡ after_all l.start (take l.i l.order);
      each : EachAfter (IsOk l.station) l.start (take l.i l.order);
    }
