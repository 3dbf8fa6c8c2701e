use Rattle.std.proofs.Common.{◌≡◌, ℕ, length, slice_get, Option, Some}
use Rattle.bay_protocol.specs.State.{State}
use Rattle.reservation_core.specs.Start.{IsNew}
use Rattle.reservation_core.proofs.start.new_nodes.Given as goal

abbrev pub invariant-loop-part : goal.invariant-loop-part
invariant-loop-part l = record {
  count : length l.nodes.items ≡ l.part;
  each : (b : ℕ) (place : Option State) → slice_get l.nodes.items b ≡ Some place → IsNew l.station b place;
}
