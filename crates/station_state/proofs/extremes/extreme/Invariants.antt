use Rattle.std.proofs.Common.{◌≡◌, ◌<◌, ℕ, length, slice_get}
use Rattle.station_state.specs.State.{extreme}
use Rattle.station_state.proofs.extremes.extreme.Given as goal

abbrev pub invariant-loop-i : goal.invariant-loop-i
invariant-loop-i l = (length l.vector ≡ length l.readings)
    × ((k : ℕ) → k < l.i → slice_get l.vector k ≡ slice_get (extreme l.uncertain l.readings) k)
