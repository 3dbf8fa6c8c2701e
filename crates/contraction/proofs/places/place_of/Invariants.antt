use Rattle.std.proofs.Common.{◌≢◌, ℕ, ◌<◌, ◌-◌, length, slice_index}
use Rattle.contraction.proofs.places.place_of.Given as goal

abbrev pub invariant-seeking : goal.invariant-seeking
invariant-seeking l = (k : ℕ) → k < l.place → slice_index l.kept k ≢ l.node

abbrev pub decreases-seeking : goal.decreases-seeking
decreases-seeking l = length l.kept - l.place
