use Rattle.std.proofs.Common.{◌≢◌, ℕ, ◌<◌, true, slice_get, Some}
use Rattle.station_compare.proofs.extends.none_gone.Given as goal

abbrev pub invariant-loop-is_gone : goal.invariant-loop-is_gone
invariant-loop-is_gone l = (i : ℕ) → i < l.is_gone-index → slice_get l.gone i ≢ Some true
