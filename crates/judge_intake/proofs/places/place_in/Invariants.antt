use Rattle.std.proofs.Common.{◌≢◌, ℕ, ◌<◌, ◌-◌, length, slice_index}
use Rattle.judge_intake.proofs.places.place_in.Given as goal

abbrev pub invariant-seeking : goal.invariant-seeking
invariant-seeking l = (k : ℕ) → k < l.place → slice_index l.list k ≢ l.node

abbrev pub decreases-seeking : goal.decreases-seeking
decreases-seeking l = length l.list - l.place
