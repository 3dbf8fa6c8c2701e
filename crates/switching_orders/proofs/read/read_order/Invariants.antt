use Rattle.std.proofs.Common.{◌≡◌, ◌≤◌, length, take, drop}
use Rattle.text_lines.specs.Lines.{filled_lines, filled_left}
use Rattle.switching_orders.specs.declared.order.TheConstants.{MOST_STEPS}
use Rattle.ilk_base.specs.declared.limits.TheConstants.{FILE_BYTES}
use Rattle.switching_orders.specs.OrderRuling.{AreOperations}
use Rattle.switching_orders.specs.OrderLines.{NameSteps}
use Rattle.switching_orders.proofs.read.read_order.Given as goal

abbrev pub invariant-loop-number : goal.invariant-loop-number
invariant-loop-number l =
    record {
      short : length l.bytes ≤ FILE_BYTES;
      few : length l.steps.items ≤ MOST_STEPS;
      left : filled_left l.lines ≡ drop (length l.steps.items) (filled_lines l.bytes);
      named : NameSteps l.station (take (length l.steps.items) (filled_lines l.bytes)) l.steps.items;
      moves : AreOperations l.station l.steps.items;
    }

abbrev pub decreases-loop-number : goal.decreases-loop-number
decreases-loop-number l = length (filled_left l.lines)
