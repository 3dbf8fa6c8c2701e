use Rattle.std.proofs.Common.{◌≡◌, ◌++◌, take}
use Rattle.switching_orders.specs.OrderText.{ok_lines}
use Rattle.switching_orders.proofs.text.push_passed.Given as goal

abbrev pub invariant-loop-i : goal.invariant-loop-i
invariant-loop-i l = l.text ≡ l.fn.text ++ ok_lines l.station (take l.i l.order)
