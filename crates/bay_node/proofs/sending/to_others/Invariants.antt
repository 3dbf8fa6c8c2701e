use Rattle.std.proofs.Common.{◌≡◌}
use Rattle.std.specs.List.{filter, range_with_len}
use Rattle.bay_protocol.specs.State.{is_another}
use Rattle.bay_protocol.specs.Sends.{to_each}
use Rattle.bay_node.proofs.sending.to_others.Given as goal

abbrev pub invariant-loop-part : goal.invariant-loop-part
invariant-loop-part l =
    l.frames ≡ to_each l.from.0 l.round l.body (filter (is_another l.station l.from.0) (range_with_len 0 l.part))
