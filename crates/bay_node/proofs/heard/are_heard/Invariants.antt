use Rattle.std.proofs.Common.{◌<◌, ℕ}
use Rattle.bay_protocol.specs.State.{IsOther, IsHeard}
use Rattle.bay_node.proofs.heard.are_heard.Given as goal

abbrev pub invariant-loop-part : goal.invariant-loop-part
invariant-loop-part l = (c : ℕ) → c < l.part → IsOther l.station l.bay.0 c → IsHeard l.heard c
