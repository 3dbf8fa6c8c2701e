use Rattle.std.proofs.Common.{◌≡◌, ℕ, ◌<◌, slice_get, Some}
use Rattle.station_compare.specs.declared.found.Found.{Found}
use Rattle.station_compare.specs.Words.{IsUnchanged}
use Rattle.station_compare.proofs.extends.are_unchanged.Given as goal

abbrev pub invariant-loop-found : goal.invariant-loop-found
invariant-loop-found l = (k : ℕ) (f : Found) → k < l.found-index → slice_get l.here k ≡ Some f → IsUnchanged f
