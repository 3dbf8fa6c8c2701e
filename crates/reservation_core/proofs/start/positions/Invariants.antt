use Rattle.std.proofs.Common.{◌≡◌, ℕ, false, length, slice_get, get_or, Some}
use Rattle.reservation_core.specs.Start.{position_of}
use Rattle.reservation_core.specs.declared.values.Position.{Position}
use Rattle.reservation_core.proofs.start.positions.Given as goal

abbrev pub invariant-loop-i : goal.invariant-loop-i
invariant-loop-i l = record {
  count : length l.truth.items ≡ l.i;
  each : (k : ℕ) (p : Position) → slice_get l.truth.items k ≡ Some p → p ≡ position_of (get_or l.start k false);
}
